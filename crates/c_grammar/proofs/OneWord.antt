-- A text is that of one word alone.
use Rattle.std.proofs.Common.{◌≡◌, ℕ, zero, suc, ◌+◌, ◌*◌, ◌<◌, ◌%◌, ◌^◌, Bool, true, false, ◌&&◌, ◌==◌, if◌then◌else◌, List, [], ◌∷◌, ◌++◌, decimal, bytes_eq, refl, sym, ap, ◌∙◌, arith, subst}
use Rattle.std.specs.Prelude.{Option, Some, None, is_some, slice_get, All}
use Rattle.std.specs.Str.Parse.{digits_value}
use Rattle.std.proofs.lemmas.Bool.{false_from_ne_true}
use Rattle.std.proofs.lemmas.Slice.Eq.{bytes_eq-Decides}
use Rattle.std.proofs.lemmas.Fmt.{decimal_by_steps, decimal_is_IsNumeral}
use Rattle.fic_base.specs.Names.{is_digit}
use Rattle.num_type.specs.declared.container.Container.{Container}
use Rattle.num_type.specs.declared.container.Container.TheVariants as container
use Rattle.c_tree.specs.declared.tree.CounterKind.{CounterKind}
use Rattle.c_tree.specs.declared.tree.CounterKind.TheVariants as counter
use Rattle.c_tree.specs.declared.tree.CArray.TheVariants as array
use Rattle.c_tree.specs.declared.tree.CRel.TheVariants as rel
use Rattle.c_tree.specs.declared.tree.COp.TheVariants as op
use Rattle.c_tree.specs.declared.array_names.Array.{Array}
use Rattle.c_tree.specs.Names.{Fronts, input_fronts, output_fronts, parts, slot_arrays, slots_arrays, is_complex, kind_container, input_arrays, output_arrays}
use Rattle.c_tree.specs.Texts.{Text, text_or_none, letter_of}
use Rattle.c_tree.specs.Tree.{Slot, Signature}
use Rattle.c_tree.specs.WellFormed.{IsInterface, AreNamedApart}
use Rattle.c_grammar.specs.declared.word.CKeyword.TheVariants as keyword
use Rattle.c_grammar.specs.declared.word.CMacro.TheVariants as macro
use Rattle.c_grammar.specs.declared.word.CSign.TheVariants as sign
use Rattle.c_grammar.specs.declared.word.CWordToken.{CWordToken}
use Rattle.c_grammar.specs.declared.word.CWordToken.TheVariants as word
use Rattle.c_grammar.specs.Words.{text_of, name_of, IsToken}

-- ---- the word of a text

-- the words whose texts are fixed
fixed : List CWordToken
fixed =
    word.Type container.I8 ∷ word.Type container.I16 ∷ word.Type container.I32 ∷ word.Type container.I64 ∷ word.Type container.U8
    ∷ word.Type container.U16 ∷ word.Type container.U32 ∷ word.Type container.U64 ∷ word.Macro macro.I32 ∷ word.Macro macro.I64
    ∷ word.Macro macro.U64 ∷ word.Keyword keyword.Const ∷ word.Keyword keyword.If ∷ word.Keyword keyword.Else ∷ word.Keyword keyword.For
    ∷ word.Keyword keyword.While ∷ word.Keyword keyword.Break ∷ word.Keyword keyword.Continue ∷ word.Keyword keyword.Return ∷ word.Rel rel.Eq
    ∷ word.Rel rel.Ne ∷ word.Rel rel.Lt ∷ word.Rel rel.Le ∷ word.Rel rel.Gt ∷ word.Rel rel.Ge
    ∷ word.Op op.Add ∷ word.Op op.Sub ∷ word.Op op.Mul ∷ word.Op op.And ∷ word.Op op.Or
    ∷ word.Op op.Xor ∷ word.Op op.Shl ∷ word.Op op.Shr ∷ word.Sign sign.Open ∷ word.Sign sign.Close
    ∷ word.Sign sign.OpenSquare ∷ word.Sign sign.CloseSquare ∷ word.Sign sign.OpenBrace ∷ word.Sign sign.CloseBrace ∷ word.Sign sign.Comma
    ∷ word.Sign sign.Semicolon ∷ word.Sign sign.Colon ∷ word.Sign sign.Question ∷ word.Sign sign.Assign ∷ []

lookup : Signature → Text → List CWordToken → CWordToken
lookup i t [] = word.Other
lookup i t (w ∷ ws) = if bytes_eq t (text_of i w) then w else lookup i t ws

table : Signature → Text → CWordToken
table i t = lookup i t fixed

-- the place of a name among those of arrays
place : Text → List Array → ℕ
place t [] = 0
place t (a ∷ more) = if bytes_eq a.name t then 0 else suc (place t more)

-- a letter and a number
lettered : ℕ → ℕ → CWordToken
lettered b n =
    if b == 118 then word.Var n
    else (if b == 109 then word.Array (array.Local n)
    else (if b == 103 then word.Counter (record { kind = counter.Group; number = n })
    else (if b == 98 then word.Counter (record { kind = counter.Barrier; number = n })
    else (if b == 107 then word.Counter (record { kind = counter.Source; number = n })
    else word.Counter (record { kind = counter.Turn; number = n })))))

third : Signature → ℕ → ℕ → Text → CWordToken
third i b c [] = word.Other
third i b c (d ∷ ds) = if d == 116 then table i (b ∷ c ∷ d ∷ ds) else word.Array (array.Input (place (b ∷ c ∷ d ∷ ds) (input_arrays i)))

named : Signature → ℕ → ℕ → Text → CWordToken
named i b c ds =
    if b == 105 && c == 110 then third i b c ds
    else (if b == 111 then word.Array (array.Output (place (b ∷ c ∷ ds) (output_arrays i)))
    else (if b == 102 && c == 105 then word.Function
    else table i (b ∷ c ∷ ds)))

behind : Signature → ℕ → Text → CWordToken
behind i b [] = table i (b ∷ [])
behind i b (c ∷ ds) = if is_digit c then lettered b (digits_value 10 (c ∷ ds)) else named i b c ds

back : Signature → Text → CWordToken
back i [] = word.Other
back i (b ∷ ds) = if is_digit b then word.Number (digits_value 10 (b ∷ ds)) else behind i b ds

-- ---- numbers

begins : Text → Bool
begins [] = false
begins (b ∷ bs) = is_digit b

more_digits : (ds : Text) (d : ℕ) → begins ds ≡ true → begins (ds ++ (d ∷ [])) ≡ true
unfolding begins
more_digits [] d h = absurd cc
more_digits (b ∷ bs) d h = h

decimal_begins : (n : ℕ) → n < 2 ^ 64 → begins (decimal n) ≡ true
unfolding begins
decimal_begins = decimal_by_steps (λ n ds. begins ds ≡ true) (λ n h. grind arith) (λ n ds h k. more_digits ds (48 + n % 10) k)

value_is : (n : ℕ) → n < 2 ^ 64 → digits_value 10 (decimal n) ≡ n
value_is n h = (decimal_is_IsNumeral n h).1

digit_back : (i : Signature) (ds : Text) → begins ds ≡ true → back i ds ≡ word.Number (digits_value 10 ds)
unfolding back begins
digit_back i [] h = absurd cc
digit_back i (b ∷ ds) h = ap (λ x. if x then word.Number (digits_value 10 (b ∷ ds)) else behind i b ds) h

letter_back : (i : Signature) (b : ℕ) (ds : Text) → is_digit b ≡ false → begins ds ≡ true → back i (b ∷ ds) ≡ lettered b (digits_value 10 ds)
unfolding back behind begins
letter_back i b [] h k = absurd cc
letter_back i b (c ∷ ds) h k =
    ap (λ x. if x then word.Number (digits_value 10 (b ∷ c ∷ ds)) else behind i b (c ∷ ds)) h
    ∙ ap (λ x. if x then lettered b (digits_value 10 (c ∷ ds)) else named i b c ds) k

letter_number : (i : Signature) (b n : ℕ) → is_digit b ≡ false → n < 2 ^ 64 → back i (b ∷ decimal n) ≡ lettered b n
letter_number i b n h small = letter_back i b (decimal n) h (decimal_begins n small) ∙ ap (λ k. lettered b k) (value_is n small)

counter_back : (i : Signature) (kind : CounterKind) (n : ℕ) → n < 2 ^ 64 → back i (letter_of kind ++ decimal n) ≡ word.Counter (record { kind = kind; number = n })
unfolding lettered
counter_back i counter.Group n h = letter_number i 103 n refl h
counter_back i counter.Barrier n h = letter_number i 98 n refl h
counter_back i counter.Source n h = letter_number i 107 n refl h
counter_back i counter.Turn n h = letter_number i 119 n refl h

-- ---- names of arrays

abbrev Each : (Array → Type 0) → List Array → Type 0
Each P [] = Unit {0}
Each P (a ∷ more) = P a × Each P more

each_of_both : (P : Array → Type 0) (xs ys : List Array) → Each P xs → Each P ys → Each P (xs ++ ys)
each_of_both P [] ys h k = k
each_of_both P (x ∷ xs) ys h k = (h.0, each_of_both P xs ys h.1 k)

some_is : {a b : Array} → Some a ≡ Some b → a ≡ b
some_is e = cc

found_each : (P : Array → Type 0) (xs : List Array) (k : ℕ) (a : Array) → Each P xs → slice_get xs k ≡ Some a → P a
found_each P [] k a h e = absurd cc
found_each P (x ∷ xs) zero a h e = subst P (some_is e) h.0
found_each P (x ∷ xs) (suc k) a h e = found_each P xs k a h.1 e

abbrev Other : Text → Array → Type 0
Other t a = bytes_eq t a.name ≡ false

abbrev Distinct : List Array → Type 0
Distinct [] = Unit {0}
Distinct (a ∷ more) = Each (Other a.name) more × Distinct more

-- a place among distinct names
placed : (xs : List Array) (k : ℕ) (a : Array) → Distinct xs → slice_get xs k ≡ Some a → place a.name xs ≡ k
unfolding place
placed [] k a h e = absurd cc
placed (x ∷ xs) zero a h e = ap (λ b. if b then 0 else suc (place a.name xs)) ((bytes_eq-Decides x.name a.name).1 (ap (λ z. z.name) (some_is e)))
placed (x ∷ xs) (suc k) a h e =
    ap (λ b. if b then 0 else suc (place a.name xs)) (found_each (Other x.name) xs k a h.0 e)
    ∙ ap (λ n. suc n) (placed xs k a h.1 e)

-- names with this front differ from those of arrays whose slots have other names
record Differs (g : Text) (f : Fronts) : Type 0 where
  plain : (s t : Text) → bytes_eq s t ≡ false → bytes_eq (g ++ s) (f.plain ++ t) ≡ false
  re : (s t : Text) → bytes_eq s t ≡ false → bytes_eq (g ++ s) (f.re ++ t) ≡ false
  im : (s t : Text) → bytes_eq s t ≡ false → bytes_eq (g ++ s) (f.im ++ t) ≡ false

record AllDiffer (f : Fronts) : Type 0 where
  plain : Differs f.plain f
  re : Differs f.re f
  im : Differs f.im f
  parts_differ : (s : Text) → bytes_eq (f.re ++ s) (f.im ++ s) ≡ false

inputs_differ : AllDiffer input_fronts
inputs_differ = record {
  plain = record { plain = λ s t h. h; re = λ s t h. refl; im = λ s t h. refl };
  re = record { plain = λ s t h. refl; re = λ s t h. h; im = λ s t h. refl };
  im = record { plain = λ s t h. refl; re = λ s t h. refl; im = λ s t h. h };
  parts_differ = λ s. refl;
}

outputs_differ : AllDiffer output_fronts
outputs_differ = record {
  plain = record { plain = λ s t h. h; re = λ s t h. refl; im = λ s t h. refl };
  re = record { plain = λ s t h. refl; re = λ s t h. h; im = λ s t h. refl };
  im = record { plain = λ s t h. refl; re = λ s t h. refl; im = λ s t h. h };
  parts_differ = λ s. refl;
}

abbrev NamesOther : Text → List Slot → Type 0
NamesOther s [] = Unit {0}
NamesOther s (t ∷ more) = (bytes_eq s t.name ≡ false) × NamesOther s more

abbrev NamesApart : List Slot → Type 0
NamesApart [] = Unit {0}
NamesApart (s ∷ more) = NamesOther s.name more × NamesApart more

parts_other : (g : Text) (f : Fronts) (s t : Text) (c : Container) (n : ℕ) (complex : Bool) → Differs g f → bytes_eq s t ≡ false → Each (Other (g ++ s)) (parts f t c n complex)
parts_other g f s t c n false d h = (d.plain s t h, tt)
parts_other g f s t c n true d h = (d.re s t h, (d.im s t h, tt))

slots_other : (g : Text) (f : Fronts) (s : Text) (slots : List Slot) → Differs g f → NamesOther s slots → Each (Other (g ++ s)) (slots_arrays f slots)
slots_other g f s [] d h = tt
slots_other g f s (t ∷ more) d h =
    each_of_both (Other (g ++ s)) (slot_arrays f t) (slots_arrays f more)
    (parts_other g f s t.name (kind_container t.kind) (t.rows * t.columns) (is_complex t.kind) d h.0)
    (slots_other g f s more d h.1)

slot_distinct : (f : Fronts) (s : Text) (c : Container) (n : ℕ) (complex : Bool) (rest : List Array) → AllDiffer f → Each (Other (f.plain ++ s)) rest → Each (Other (f.re ++ s)) rest → Each (Other (f.im ++ s)) rest → Distinct rest → Distinct (parts f s c n complex ++ rest)
slot_distinct f s c n false rest d h k l m = (h, m)
slot_distinct f s c n true rest d h k l m = ((d.parts_differ s, k), (l, m))

slots_distinct : (f : Fronts) (slots : List Slot) → AllDiffer f → NamesApart slots → Distinct (slots_arrays f slots)
slots_distinct f [] d h = tt
slots_distinct f (s ∷ more) d h =
    slot_distinct f s.name (kind_container s.kind) (s.rows * s.columns) (is_complex s.kind) (slots_arrays f more) d
    (slots_other f.plain f s.name more d.plain h.0) (slots_other f.re f s.name more d.re h.0) (slots_other f.im f s.name more d.im h.0)
    (slots_distinct f more d h.1)

names_other : (s : Slot) (more : List Slot) → All (λ t. s.name ≡ t.name → ⊥) more → NamesOther s.name more
names_other s [] h = tt
names_other s (t ∷ more) h = (
  false_from_ne_true (bytes_eq s.name t.name) (λ e. h 0 t (omega arith) ((bytes_eq-Decides s.name t.name).0 e)),
  names_other s more (λ k d m. h (suc k) d (omega arith)),
)

names_apart : (slots : List Slot) → AreNamedApart slots → NamesApart slots
names_apart [] h = tt
names_apart (s ∷ more) h = (
  names_other s more (λ k d m. h 0 (suc k) d (omega arith) (omega arith)),
  names_apart more (λ i j d m n. h (suc i) (suc j) d (omega arith) (omega arith)),
)

-- which word a name of a parameter gives
parts_each : (P : Array → Type 0) (f : Fronts) (s : Text) (c : Container) (n : ℕ) (complex : Bool) → P (record { name = f.plain ++ s; container = c; extent = n }) → P (record { name = f.re ++ s; container = c; extent = n }) → P (record { name = f.im ++ s; container = c; extent = n }) → Each P (parts f s c n complex)
parts_each P f s c n false h k l = (h, tt)
parts_each P f s c n true h k l = (k, (l, tt))

abbrev BackInput : Signature → Array → Type 0
BackInput i a = back i a.name ≡ word.Array (array.Input (place a.name (input_arrays i)))

abbrev BackOutput : Signature → Array → Type 0
BackOutput i a = back i a.name ≡ word.Array (array.Output (place a.name (output_arrays i)))

inputs_back : (i : Signature) (slots : List Slot) → Each (BackInput i) (slots_arrays input_fronts slots)
unfolding back behind named third
inputs_back i [] = tt
inputs_back i (s ∷ more) =
    each_of_both (BackInput i) (slot_arrays input_fronts s) (slots_arrays input_fronts more)
    (parts_each (BackInput i) input_fronts s.name (kind_container s.kind) (s.rows * s.columns) (is_complex s.kind) refl refl refl)
    (inputs_back i more)

outputs_back : (i : Signature) (slots : List Slot) → Each (BackOutput i) (slots_arrays output_fronts slots)
unfolding back behind named third
outputs_back i [] = tt
outputs_back i (s ∷ more) =
    each_of_both (BackOutput i) (slot_arrays output_fronts s) (slots_arrays output_fronts more)
    (parts_each (BackOutput i) output_fronts s.name (kind_container s.kind) (s.rows * s.columns) (is_complex s.kind) refl refl refl)
    (outputs_back i more)

input_back : (i : Signature) → IsInterface i → (k : ℕ) → is_some (slice_get (input_arrays i) k) ≡ true → back i (name_of i (array.Input k)) ≡ word.Array (array.Input k)
input_back i it k h = known (slice_get (input_arrays i) k) refl h
  where
    known : (o : Option Array) → slice_get (input_arrays i) k ≡ o → is_some o ≡ true → back i (name_of i (array.Input k)) ≡ word.Array (array.Input k)
    known None e h = absurd cc
    known (Some a) e h =
        ap (λ o. back i (text_or_none (λ a. a.name) o)) e
        ∙ found_each (BackInput i) (input_arrays i) k a (inputs_back i i.inputs) e
        ∙ ap (λ n. word.Array (array.Input n)) (placed (input_arrays i) k a (slots_distinct input_fronts i.inputs inputs_differ (names_apart i.inputs it.inputs_differ)) e)

output_back : (i : Signature) → IsInterface i → (k : ℕ) → is_some (slice_get (output_arrays i) k) ≡ true → back i (name_of i (array.Output k)) ≡ word.Array (array.Output k)
output_back i it k h = known (slice_get (output_arrays i) k) refl h
  where
    known : (o : Option Array) → slice_get (output_arrays i) k ≡ o → is_some o ≡ true → back i (name_of i (array.Output k)) ≡ word.Array (array.Output k)
    known None e h = absurd cc
    known (Some a) e h =
        ap (λ o. back i (text_or_none (λ a. a.name) o)) e
        ∙ found_each (BackOutput i) (output_arrays i) k a (outputs_back i i.outputs) e
        ∙ ap (λ n. word.Array (array.Output n)) (placed (output_arrays i) k a (slots_distinct output_fronts i.outputs outputs_differ (names_apart i.outputs it.outputs_differ)) e)

-- ---- each word

back_is : (i : Signature) → IsInterface i → (w : CWordToken) → IsToken i w → back i (text_of i w) ≡ w
unfolding back behind named third table lookup fixed lettered
back_is i it word.Function h = refl
back_is i it (word.Number n) h = digit_back i (decimal n) (decimal_begins n h) ∙ ap (λ k. word.Number k) (value_is n h)
back_is i it (word.Var k) h = letter_number i 118 k refl (omega arith)
back_is i it (word.Counter c) h = counter_back i c.kind c.number (omega arith)
back_is i it (word.Array (array.Input k)) h = input_back i it k h
back_is i it (word.Array (array.Output k)) h = output_back i it k h
back_is i it (word.Array (array.Local k)) h = letter_number i 109 k refl (omega arith)
back_is i it word.Other h = absurd h
back_is i it (word.Type container.I8) h = refl
back_is i it (word.Type container.I16) h = refl
back_is i it (word.Type container.I32) h = refl
back_is i it (word.Type container.I64) h = refl
back_is i it (word.Type container.U8) h = refl
back_is i it (word.Type container.U16) h = refl
back_is i it (word.Type container.U32) h = refl
back_is i it (word.Type container.U64) h = refl
back_is i it (word.Macro macro.I32) h = refl
back_is i it (word.Macro macro.I64) h = refl
back_is i it (word.Macro macro.U64) h = refl
back_is i it (word.Keyword keyword.Const) h = refl
back_is i it (word.Keyword keyword.If) h = refl
back_is i it (word.Keyword keyword.Else) h = refl
back_is i it (word.Keyword keyword.For) h = refl
back_is i it (word.Keyword keyword.While) h = refl
back_is i it (word.Keyword keyword.Break) h = refl
back_is i it (word.Keyword keyword.Continue) h = refl
back_is i it (word.Keyword keyword.Return) h = refl
back_is i it (word.Rel rel.Eq) h = refl
back_is i it (word.Rel rel.Ne) h = refl
back_is i it (word.Rel rel.Lt) h = refl
back_is i it (word.Rel rel.Le) h = refl
back_is i it (word.Rel rel.Gt) h = refl
back_is i it (word.Rel rel.Ge) h = refl
back_is i it (word.Op op.Add) h = refl
back_is i it (word.Op op.Sub) h = refl
back_is i it (word.Op op.Mul) h = refl
back_is i it (word.Op op.And) h = refl
back_is i it (word.Op op.Or) h = refl
back_is i it (word.Op op.Xor) h = refl
back_is i it (word.Op op.Shl) h = refl
back_is i it (word.Op op.Shr) h = refl
back_is i it (word.Sign sign.Open) h = refl
back_is i it (word.Sign sign.Close) h = refl
back_is i it (word.Sign sign.OpenSquare) h = refl
back_is i it (word.Sign sign.CloseSquare) h = refl
back_is i it (word.Sign sign.OpenBrace) h = refl
back_is i it (word.Sign sign.CloseBrace) h = refl
back_is i it (word.Sign sign.Comma) h = refl
back_is i it (word.Sign sign.Semicolon) h = refl
back_is i it (word.Sign sign.Colon) h = refl
back_is i it (word.Sign sign.Question) h = refl
back_is i it (word.Sign sign.Assign) h = refl

-- a text is that of one word of an interface
pub one_word : (i : Signature) → IsInterface i → (v w : CWordToken) → IsToken i v → IsToken i w → text_of i v ≡ text_of i w → v ≡ w
one_word i it v w h k e = sym (back_is i it v h) ∙ ap (back i) e ∙ back_is i it w k
