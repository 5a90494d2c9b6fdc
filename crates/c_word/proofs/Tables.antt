-- Tables whose keys are bytes.
use Rattle.std.proofs.Common.{◌≡◌, ℕ, Bool, true, false, if◌then◌else◌, List, Some, sym, ◌∙◌, subst}
use mathlib.Core.Logic.{⊎_elim}
use Rattle.std.specs.Prelude.{bytes_eq}
use Rattle.std.specs.Global.{Vec}
use Rattle.std.specs.HashMap as hash
use Rattle.std.specs.HashMap.{HashMap}
use Rattle.std.specs.Cmp.Lexicographic.{bytes_decides, nat_list_eq_equiv}
use Rattle.std.proofs.lemmas.Bool.{cases_Bool}
use Rattle.fic_base.proofs.Tables.{apart, others, is_key}
use Rattle.c_grammar.specs.declared.word.CWordToken.{CWordToken}
use Rattle.c_word.specs.Table.{with_word}

-- a table with another word at a text
pub word_put : {S : Type 0} (text : List ℕ) (w : CWordToken) (m n : HashMap (Vec ℕ) CWordToken S) → hash.UpdatesBy (λ x y. bytes_eq x.items y.items) (λ k. bytes_eq text k.items) m n (Some w)
    → (other : List ℕ) → hash.get_by (is_key other) n ≡ with_word (λ t. hash.get_by (is_key t) m) text w other
word_put text w m n h other = ⊎_elim
    (λ y. subst (λ t. hash.get_by (is_key t) n ≡ Some w) ((bytes_decides text other).0 y) h.1 ∙ sym (chosen (bytes_eq text other) y))
    (λ d. others _ _ _ _ h.3 _ (λ x y. nat_list_eq_equiv.congr other x.items y.items) (λ k. apart text other k.items d) ∙ sym (left (bytes_eq text other) d))
    (cases_Bool (bytes_eq text other))
  where
    chosen : (b : Bool) → b ≡ true → (if b then Some w else hash.get_by (is_key other) m) ≡ Some w
    chosen b e = λ i. if e i then Some w else hash.get_by (is_key other) m

    left : (b : Bool) → b ≡ false → (if b then Some w else hash.get_by (is_key other) m) ≡ hash.get_by (is_key other) m
    left b e = λ i. if e i then Some w else hash.get_by (is_key other) m
