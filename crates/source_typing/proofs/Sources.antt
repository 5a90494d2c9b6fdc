-- What the walk over functions and files passes is within the limits.
use Rattle.std.proofs.Common.{◌≡◌, ℕ, zero, suc, ◌≤◌, List, [], ◌∷◌, sym, subst, arith}
use Rattle.fic_base.specs.declared.place.Place.{Place}
use Rattle.mat_ast.specs.declared.tree.Ident.{Ident}
use Rattle.mat_ast.specs.Tree.{Fun}
use Rattle.node_rules.specs.Types.{NodeTy}
use Rattle.walk_scope.specs.Told.{Told, Passes}
use Rattle.source_typing.specs.Counts.{Counts, no_counts, call_limit}
use Rattle.source_typing.specs.Functions.{body_typed, any_output, file_call, source_typed}
use Rattle.source_typing.specs.Setting.{Called, FileCall}
use Rattle.source_typing.specs.Within.{IsWithin}
use Rattle.source_typing.proofs.Passing.{Passing, goes_on, after_any, either}
use Rattle.source_typing.proofs.Within.{CalledWithin, CallsWithin}
use Rattle.source_typing.proofs.Blocks.{BlockWithin, statements_within}

body_within : (call : FileCall) → CallsWithin call → (output : Ident → NodeTy → Told NodeTy) (fs : List Fun) (f : Fun) (ts : List NodeTy) (nesting : ℕ) (c : Counts) → IsWithin c
    → Passing CalledWithin (body_typed call output fs f ts nesting c)
body_within call calls output fs f ts nesting c h =
    goes_on BlockWithin CalledWithin _ _ (statements_within f.body _ calls _ c h) (λ b k. after_any CalledWithin _ _ (λ slots. k))

calls_within : (fs : List Fun) (depth : ℕ) (running : List (List ℕ)) → CallsWithin (file_call fs depth running)
calls_within fs zero running at name g wanted nesting h = after_any CalledWithin _ _ (λ f. after_any CalledWithin _ _ (λ ts. tt))
calls_within fs (suc depth) running at name g wanted nesting h =
    after_any CalledWithin _ _ (λ f. after_any CalledWithin _ _ (λ ts.
    body_within (file_call fs depth (name ∷ running)) (calls_within fs depth (name ∷ running)) any_output fs f ts nesting g.counts h))

none_within : IsWithin no_counts
none_within = record { nodes = omega arith; elements = omega arith }

source_within : (fs : List Fun) (entry : List ℕ) (ts : List NodeTy) → Passing CalledWithin (source_typed fs entry ts)
source_within fs entry ts =
    after_any CalledWithin _ _ (λ f. after_any CalledWithin _ _ (λ seen. either CalledWithin _ _ _
    (body_within _ (calls_within fs call_limit (f.name.text ∷ [])) _ fs f ts 0 no_counts none_within) tt))

-- a source that is typed has walked no more than the limits allow
pub typed_within_limits : (fs : List Fun) (entry : List ℕ) (ts : List NodeTy) (r : Called) → source_typed fs entry ts ≡ Passes r → IsWithin r.counts
typed_within_limits fs entry ts r e = subst (Passing CalledWithin) e (source_within fs entry ts)
