-- The worked program, checked by computing.
use Rattle.std.proofs.Common.{◌≡◌, ◌≢◌, ℕ, zero, suc, ◌<◌, ◌≤◌, Bool, true, false, ◌||◌, pos, neg_ℤ, List, [], ◌∷◌, codes, arith, refl, sym, ◌∙◌, ap, subst, true≢false}
use Rattle.std.specs.Prelude.{All, AllPairs, bytes_eq}
use Rattle.std.specs.List.{list_any}
use Rattle.std.specs.Fmt.{digits}
use Rattle.std.proofs.lemmas.Int.{ints}
use Rattle.fic_base.specs.Names.{keywords, IsName}
use Rattle.num_type.specs.Types.{NumericType, IsWithin}
use Rattle.shape_rules.specs.Shapes.{IsShape}
use Rattle.c_tree.specs.declared.tree.CounterKind.{CounterKind}
use Rattle.c_tree.specs.declared.tree.CounterKind.TheVariants as counter
use Rattle.c_tree.specs.Tree.{Fixed, Slot}
use Rattle.c_tree.specs.Names.{counters_of}
use Rattle.c_tree.specs.Interface.{include_line}
use Rattle.c_tree.specs.Layout.{layout, function_front, zero_text}
use Rattle.c_tree.specs.Outcome.{bind, choose, found_at}
use Rattle.c_tree.specs.Meaning.{signed_at, operated, element, assigned, kept, stored}
use Rattle.c_tree.specs.WellFormed.{number_limit, IsSlot, given, operator_type, element_type, is_one_type, are_fit, scope_of, IsWellFormed}
use Rattle.c_tree.specs.Run.{run, Ended}
use Rattle.c_tree.specs.Example.{scalar, example, example_text}

either_false : (a b : Bool) → a || b ≡ false → (a ≡ false) × (b ≡ false)
either_false true b h = absurd cc
either_false false b h = (refl, h)

-- a text that is none of some words
none_of : (name : List ℕ) → bytes_eq name name ≡ true → (words : List (List ℕ)) → list_any (bytes_eq name) words ≡ false → All (λ word. word ≢ name) words
none_of name same [] h k d lt = absurd (omega arith)
none_of name same (w ∷ words) h zero d lt =
    λ e. true≢false (sym same ∙ subst (λ v. bytes_eq name v ≡ false) e (either_false (bytes_eq name w) (list_any (bytes_eq name) words) h).0)
none_of name same (w ∷ words) h (suc k) d lt =
    none_of name same words (either_false (bytes_eq name w) (list_any (bytes_eq name) words) h).1 k d (omega arith)

a_name : IsName (codes "a")
a_name = record { letter = refl; name_bytes = refl; most = omega arith; no_keyword = none_of (codes "a") refl keywords refl }

b_name : IsName (codes "b")
b_name = record { letter = refl; name_bytes = refl; most = omega arith; no_keyword = none_of (codes "b") refl keywords refl }

f_name : IsName (codes "f")
f_name = record { letter = refl; name_bytes = refl; most = omega arith; no_keyword = none_of (codes "f") refl keywords refl }

y_name : IsName (codes "y")
y_name = record { letter = refl; name_bytes = refl; most = omega arith; no_keyword = none_of (codes "y") refl keywords refl }

one_shape : IsShape 1 1
one_shape = record { a_row = omega arith; a_column = omega arith; few = omega arith }

pub computed_text : layout example ≡ example_text
unfolding include_line function_front zero_text digits
computed_text = refl

pub computed_value : run example ((pos 24 ∷ []) ∷ (neg_ℤ (pos 32) ∷ []) ∷ []) ((pos 0 ∷ []) ∷ []) 0 ≡ Ended 0 ((neg_ℤ (pos 384) ∷ []) ∷ [])
unfolding bind choose found_at signed_at operated element assigned kept stored
computed_value = refl

computed_fit : are_fit (scope_of example) false example.body ≡ true
unfolding given operator_type element_type is_one_type
computed_fit = refl

same_type : (t u : NumericType) (b c : Bool) → Fixed t b ≡ Fixed u c → t ≡ u
same_type t u b c e = cc

-- a slot of one element
scalar_slot : (name : List ℕ) (word fraction : ℕ) → IsName name → 1 ≤ word → word ≤ 64 → fraction ≤ 256 → IsSlot (scalar name word fraction)
scalar_slot name word fraction is one most few = record {
  name = is;
  kind = λ t complex e. subst IsWithin (same_type _ t false complex e) (record { one_bit = one; bits = most; least = omega (arith, ints); most = omega (arith, ints) });
  shape = one_shape;
}

one_of : (s : Slot) → IsSlot s → All IsSlot (s ∷ [])
one_of s h zero d lt = h
one_of s h (suc k) d lt = absurd (omega arith)

two_of : (s t : Slot) → IsSlot s → IsSlot t → All IsSlot (s ∷ t ∷ [])
two_of s t h k zero d lt = h
two_of s t h k (suc i) d lt = one_of t k i d (omega arith)

one_apart : (s : Slot) → AllPairs (λ s t. s.name ≢ t.name) (s ∷ [])
one_apart s i j d lt lj = absurd (omega arith)

two_apart : (s t : Slot) → s.name ≢ t.name → AllPairs (λ s t. s.name ≢ t.name) (s ∷ t ∷ [])
two_apart s t h zero zero d lt lj = absurd (omega arith)
two_apart s t h zero (suc zero) d lt lj = h
two_apart s t h zero (suc (suc j)) d lt lj = absurd (omega arith)
two_apart s t h (suc i) j d lt lj = absurd (omega arith)

a_slot : IsSlot (scalar (codes "a") 8 4)
a_slot = scalar_slot (codes "a") 8 4 a_name (omega arith) (omega arith) (omega arith)

b_slot : IsSlot (scalar (codes "b") 8 4)
b_slot = scalar_slot (codes "b") 8 4 b_name (omega arith) (omega arith) (omega arith)

y_slot : IsSlot (scalar (codes "y") 17 8)
y_slot = scalar_slot (codes "y") 17 8 y_name (omega arith) (omega arith) (omega arith)

few : (kind : CounterKind) → counters_of example kind < number_limit
few counter.Group = omega arith
few counter.Barrier = omega arith
few counter.Source = omega arith
few counter.Turn = omega arith

pub example_is_well_formed : IsWellFormed example
example_is_well_formed = record {
  interface = record {
    entry = f_name;
    inputs = two_of (scalar (codes "a") 8 4) (scalar (codes "b") 8 4) a_slot b_slot;
    outputs = one_of (scalar (codes "y") 17 8) y_slot;
    inputs_differ = two_apart (scalar (codes "a") 8 4) (scalar (codes "b") 8 4) (λ e. true≢false (ap (bytes_eq (codes "a")) e));
    outputs_differ = one_apart (scalar (codes "y") 17 8);
    any = λ e. cc;
  };
  declarations = record {
    arrays = λ k d lt. absurd (omega arith);
    few_arrays = omega arith;
    few_words = omega arith;
    few_counters = few;
  };
  statements = computed_fit;
  counters_serve_once = λ i j d lt lj. absurd (omega arith);
  returns = refl;
}
