use Rattle.std.proofs.Common.{◌≡◌, ◌∷◌, [], ◌++◌, sym, ap, ◌∙◌, arith}
use Rattle.std.proofs.lemmas.Grind.{common_steps}
use Rattle.walk_scope.specs.Names.{is_listed}
use Rattle.walk_scope.proofs.Tables.{one_more}
use Rattle.walk_scope.proofs.name_set.NameSet.insert.Goals as goal

pub invariant_of-self-in-Ok : goal.invariant_of-self-in-Ok
invariant_of-self-in-Ok c =
    let pushed : c.push.new.self.items ≡ c.args.self.now.list.items ++ c.args.name.now ∷ [] = grind (arith, common_steps, c.push.ensures.items, c.push.ensures.succeeds, c.in_ok-reserve.ensures.ok, c.in_ok-reserve.ensures.items, c.in_ok-reserve.ensures.len, c.in_ok-text.ensures) in
    record {
      same = λ name.
          one_more _ c.in_ok-key.key.items c.args.self.now.list.items c.args.self.now.table c.insert.new.self c.in-Ok.ensures.updates c.args.self.now.same name
          ∙ ap (λ b. is_listed name (c.args.self.now.list.items ++ b ∷ [])) c.in_ok-key.ensures.items
          ∙ ap (is_listed name) (sym pushed);
    }
