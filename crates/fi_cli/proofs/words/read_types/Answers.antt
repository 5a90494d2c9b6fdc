use Rattle.std.proofs.Common.{◌≡◌, sym, ◌∙◌, arith, ℕ, ◌+◌, suc, subst, take, map, string_bytes, ◌++◌, ◌∷◌, [], List, ap, refl, length}
use Rattle.std.specs.Prelude.{slice_get, Some, option_map}
use Rattle.std.proofs.lemmas.Option.{slice_get_read, slice_get-map}
use Rattle.fi_cli.specs.Forms.{IsTypeWord, AreTypeWords}
use Rattle.fi_cli.proofs.TypeWords.{next_type}
use Rattle.fi_cli.proofs.words.read_types.Goals as goal

pub returns-in-None : goal.returns-in-None
returns-in-None c =
    let ws : List (List ℕ) = map string_bytes c.args.words.now in
    let at : slice_get ws c.loop-word.word-index ≡ Some (string_bytes c.word-item.result) =
    slice_get-map string_bytes c.args.words.now c.loop-word.word-index
    ∙ ap (option_map string_bytes) (slice_get_read c.args.words.now (length c.args.words.now) c.loop-word.word-index c.word-item.result refl c.loop-word-test.true c.word-item.is) in
    record {
      ds = c.loop-word.types.items;
      front = subst (λ (n : ℕ). AreTypeWords (take n ws) c.loop-word.types.items) (sym c.loop-word.invariant.0) c.loop-word.invariant.1;
      word = string_bytes c.word-item.result;
      there = ap (slice_get ws) c.loop-word.invariant.0 ∙ at;
      none = λ d h. c.in-None.ensures d (subst (λ w. IsTypeWord w d) (sym c.as_bytes.ensures.value) h);
    }

pub loop-word-preserved : goal.loop-word-preserved
loop-word-preserved c =
    let ws : List (List ℕ) = map string_bytes c.args.words.now in
    let at : slice_get ws c.loop-word.word-index ≡ Some (string_bytes c.word-item.result) =
    slice_get-map string_bytes c.args.words.now c.loop-word.word-index
    ∙ ap (option_map string_bytes) (slice_get_read c.args.words.now (length c.args.words.now) c.loop-word.word-index c.word-item.result refl c.loop-word-test.true c.word-item.is) in
    let more = next_type ws c.loop-word.word-index c.loop-word.types.items (string_bytes c.word-item.result) c.in-Some.declared c.loop-word.invariant.1 at
    (subst (λ w. IsTypeWord w c.in-Some.declared) c.as_bytes.ensures.value c.in-Some.ensures) in
    let next : suc c.loop-word.word-index ≡ c.loop-word.word-index + 1 = omega arith in (
      omega (arith, c.loop-word.invariant.0),
      subst (λ items. AreTypeWords (take (c.loop-word.word-index + 1) ws) items) (sym c.in_ok-push-in-Some.ensures.items)
          (subst (λ (n : ℕ). AreTypeWords (take n ws) (c.loop-word.types.items ++ c.in-Some.declared ∷ [])) next more),
    )
