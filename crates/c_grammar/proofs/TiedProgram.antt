-- The words of a whole program: they are tokens of its interface, and their texts are its tokens.
use Rattle.std.proofs.Common.{◌≡◌, ℕ, zero, suc, ◌+◌, ◌*◌, ◌<◌, ◌^◌, Bool, true, false, List, [], ◌∷◌, ◌++◌, map, codes, decimal, length, refl, sym, ap, ◌∙◌, arith, subst}
use Rattle.std.specs.Prelude.{Some, is_some, slice_get, All}
use Rattle.num_type.specs.declared.container.Container.{Container}
use Rattle.c_tree.specs.declared.tree.CounterKind.{CounterKind}
use Rattle.c_tree.specs.declared.tree.CounterKind.TheVariants as counter
use Rattle.c_tree.specs.declared.tree.CArray.{CArray}
use Rattle.c_tree.specs.declared.tree.CArray.TheVariants as array
use Rattle.c_tree.specs.declared.tree.CWord.{CWord}
use Rattle.c_tree.specs.declared.tree.CWord.TheVariants.{I64, U64}
use Rattle.c_tree.specs.declared.tree.LocalArray.{LocalArray}
use Rattle.c_tree.specs.declared.array_names.Array.{Array}
use Rattle.c_tree.specs.declared.array_names.Arrays.{Arrays}
use Rattle.c_tree.specs.Names.{Fronts, input_fronts, output_fronts, parts, slot_arrays, slots_arrays, is_complex, kind_container, locals_from, arrays_of, array_at, input_arrays, output_arrays}
use Rattle.c_tree.specs.Texts.{container_text, var_text, letter_of, text_or_none, function_name}
use Rattle.c_tree.specs.Spelling.{spell_array, spell_outputs, spell_inputs, spell_parameters, spell_locals, spell_start, spell_words, spell_counters, spell_declarations, spell_header, spelled}
use Rattle.c_tree.specs.Tree.{Slot, Signature, Program}
use Rattle.c_tree.specs.WellFormed.{IsSlot, IsLocalArray, IsWellFormed, scope_of}
use Rattle.c_grammar.specs.declared.word.CSign.TheVariants as sign
use Rattle.c_grammar.specs.declared.word.CWordToken.{CWordToken}
use Rattle.c_grammar.specs.declared.word.CWordToken.TheVariants as word
use Rattle.c_grammar.specs.Words.{text_of, IsArrayOf, IsToken}
use Rattle.c_grammar.specs.Sentence.{Words, block_words, output_words, input_words, parameter_words, local_words, start_words, variable_words, counter_words, declaration_words, words_of}
use Rattle.c_grammar.proofs.Known.{IsKnown, AllKnown, IsSmall, type_known, block_known}
use Rattle.c_grammar.proofs.Tied.{text_in, texts, zero_text, block_tied}

-- ---- arrays by their numbers

-- from this number on, the arrays are these
abbrev Stands : List Array → ℕ → List Array → Type 0
Stands xs k ys = (j : ℕ) → slice_get xs (k + j) ≡ slice_get ys j

first_stands : (xs : List Array) (k : ℕ) (a : Array) (more : List Array) → Stands xs k (a ∷ more) → slice_get xs k ≡ Some a
first_stands xs k a more h = let e : k + 0 ≡ k = omega arith in subst (λ n. slice_get xs n ≡ Some a) e (h 0)

rest_stands : (xs : List Array) (k : ℕ) (a : Array) (more : List Array) → Stands xs k (a ∷ more) → Stands xs (suc k) more
rest_stands xs k a more h j = let e : k + suc j ≡ suc k + j = omega arith in subst (λ n. slice_get xs n ≡ slice_get more j) e (h (suc j))

whole_stands : (xs : List Array) → Stands xs 0 xs
whole_stands xs j = let e : 0 + j ≡ j = omega arith in ap (slice_get xs) e

some_stands : (xs : List Array) (k : ℕ) (a : Array) → slice_get xs k ≡ Some a → is_some (slice_get xs k) ≡ true
some_stands xs k a h = ap is_some h

named : (xs : List Array) (k : ℕ) (a : Array) → slice_get xs k ≡ Some a → text_or_none (λ a. a.name) (slice_get xs k) ≡ a.name
named xs k a h = ap (text_or_none (λ a. a.name)) h

-- extents are below the limit of numbers
abbrev AreSmall : List Array → Type 0
AreSmall [] = Unit {0}
AreSmall (a ∷ more) = (a.extent < 2 ^ 64) × AreSmall more

append_small : (xs ys : List Array) → AreSmall xs → AreSmall ys → AreSmall (xs ++ ys)
append_small [] ys h k = k
append_small (x ∷ xs) ys h k = (h.0, append_small xs ys h.1 k)

parts_small : (f : Fronts) (name : List ℕ) (c : Container) (n : ℕ) (complex : Bool) → n < 2 ^ 64 → AreSmall (parts f name c n complex)
parts_small f name c n false h = (h, tt)
parts_small f name c n true h = (h, (h, tt))

slots_small : (f : Fronts) (slots : List Slot) → All IsSlot slots → AreSmall (slots_arrays f slots)
slots_small f [] h = tt
slots_small f (s ∷ more) h =
    append_small (slot_arrays f s) (slots_arrays f more)
    (parts_small f s.name (kind_container s.kind) (s.rows * s.columns) (is_complex s.kind) (let few = (h 0 s (omega arith)).shape.few in omega arith))
    (slots_small f more (λ k d m. h (suc k) d (omega arith)))

-- ---- the header

outputs_tied : (i : Signature) (all : Arrays) (k : ℕ) (ys : List Array) (rest : Words) → Stands all.outputs k ys → texts i all (output_words k ys rest) ≡ spell_outputs ys (texts i all rest)
outputs_tied i all k [] rest h = refl
outputs_tied i all k (a ∷ more) rest h =
    ap (λ t. codes "," ∷ container_text a.container ∷ t ∷ codes "[" ∷ decimal a.extent ∷ codes "]" ∷ texts i all (output_words (suc k) more rest)) (named all.outputs k a (first_stands all.outputs k a more h))
    ∙ ap (λ l. codes "," ∷ spell_array a l) (outputs_tied i all (suc k) more rest (rest_stands all.outputs k a more h))

inputs_tied : (i : Signature) (all : Arrays) (k : ℕ) (ys : List Array) (rest : Words) → Stands all.inputs k ys → texts i all (input_words k ys rest) ≡ spell_inputs ys (texts i all rest)
inputs_tied i all k [] rest h = refl
inputs_tied i all k (a ∷ more) rest h =
    ap (λ t. codes "," ∷ codes "const" ∷ container_text a.container ∷ t ∷ codes "[" ∷ decimal a.extent ∷ codes "]" ∷ texts i all (input_words (suc k) more rest)) (named all.inputs k a (first_stands all.inputs k a more h))
    ∙ ap (λ l. codes "," ∷ codes "const" ∷ spell_array a l) (inputs_tied i all (suc k) more rest (rest_stands all.inputs k a more h))

parameters_tied : (i : Signature) (all : Arrays) (xs ys : List Array) (rest : Words) → Stands all.inputs 0 xs → Stands all.outputs 0 ys → texts i all (parameter_words xs ys rest) ≡ spell_parameters xs ys (texts i all rest)
parameters_tied i all [] [] rest h k = refl
parameters_tied i all [] (a ∷ more) rest h k =
    ap (λ t. container_text a.container ∷ t ∷ codes "[" ∷ decimal a.extent ∷ codes "]" ∷ texts i all (output_words 1 more rest)) (named all.outputs 0 a (first_stands all.outputs 0 a more k))
    ∙ ap (λ l. spell_array a l) (outputs_tied i all 1 more rest (rest_stands all.outputs 0 a more k))
parameters_tied i all (a ∷ more) ys rest h k =
    ap (λ t. codes "const" ∷ container_text a.container ∷ t ∷ codes "[" ∷ decimal a.extent ∷ codes "]" ∷ texts i all (input_words 1 more (output_words 0 ys rest))) (named all.inputs 0 a (first_stands all.inputs 0 a more h))
    ∙ ap (λ l. codes "const" ∷ spell_array a l) (inputs_tied i all 1 more (output_words 0 ys rest) (rest_stands all.inputs 0 a more h))
    ∙ ap (λ l. codes "const" ∷ spell_array a (spell_inputs more l)) (outputs_tied i all 0 ys rest k)

outputs_known : (all : Arrays) (k : ℕ) (ys : List Array) (rest : Words) → Stands all.outputs k ys → AreSmall ys → AllKnown all rest → AllKnown all (output_words k ys rest)
outputs_known all k [] rest h m it = it
outputs_known all k (a ∷ more) rest h m it =
    (tt, (tt, (some_stands all.outputs k a (first_stands all.outputs k a more h), (tt, (m.0, (tt, outputs_known all (suc k) more rest (rest_stands all.outputs k a more h) m.1 it))))))

inputs_known : (all : Arrays) (k : ℕ) (ys : List Array) (rest : Words) → Stands all.inputs k ys → AreSmall ys → AllKnown all rest → AllKnown all (input_words k ys rest)
inputs_known all k [] rest h m it = it
inputs_known all k (a ∷ more) rest h m it =
    (tt, (tt, (tt, (some_stands all.inputs k a (first_stands all.inputs k a more h), (tt, (m.0, (tt, inputs_known all (suc k) more rest (rest_stands all.inputs k a more h) m.1 it)))))))

parameters_known : (all : Arrays) (xs ys : List Array) (rest : Words) → Stands all.inputs 0 xs → Stands all.outputs 0 ys → AreSmall xs → AreSmall ys → AllKnown all rest → AllKnown all (parameter_words xs ys rest)
parameters_known all [] [] rest h k m n it = it
parameters_known all [] (a ∷ more) rest h k m n it =
    (tt, (some_stands all.outputs 0 a (first_stands all.outputs 0 a more k), (tt, (n.0, (tt, outputs_known all 1 more rest (rest_stands all.outputs 0 a more k) n.1 it)))))
parameters_known all (a ∷ more) ys rest h k m n it = (
  tt,
  (
    tt,
    (
      some_stands all.inputs 0 a (first_stands all.inputs 0 a more h),
      (
        tt,
        (
          m.0,
          (
            tt,
            inputs_known all 1 more (output_words 0 ys rest) (rest_stands all.inputs 0 a more h) m.1
                (outputs_known all 0 ys rest k n it),
          ),
        ),
      ),
    ),
  ),
)

-- ---- the declarations

locals_tied : (i : Signature) (all : Arrays) (k : ℕ) (ys : List LocalArray) (rest : Words) → Stands all.locals k (locals_from k ys) → texts i all (local_words k ys rest) ≡ spell_locals (locals_from k ys) (texts i all rest)
locals_tied i all k [] rest h = refl
locals_tied i all k (a ∷ more) rest h =
    let one : Array = record { name = codes "m" ++ decimal k; container = a.container; extent = a.count } in
    let next = locals_from (suc k) more in
    ap (λ t. container_text a.container ∷ t ∷ codes "[" ∷ decimal a.count ∷ codes "]" ∷ codes "=" ∷ codes "{" ∷ decimal 0 ∷ codes "}" ∷ codes ";" ∷ texts i all (local_words (suc k) more rest)) (named all.locals k one (first_stands all.locals k one next h))
    ∙ ap (λ t. spell_array one (codes "=" ∷ codes "{" ∷ t ∷ codes "}" ∷ codes ";" ∷ texts i all (local_words (suc k) more rest))) zero_text
    ∙ ap (λ l. spell_array one (codes "=" ∷ codes "{" ∷ codes "0" ∷ codes "}" ∷ codes ";" ∷ l)) (locals_tied i all (suc k) more rest (rest_stands all.locals k one next h))

start_tied : (i : Signature) (all : Arrays) (w : CWord) (name : CWordToken) (rest : Words) → texts i all (start_words w name rest) ≡ spell_start w (text_in i all name) (texts i all rest)
start_tied i all I64 name rest = refl
start_tied i all U64 name rest = refl

variables_tied : (i : Signature) (all : Arrays) (k : ℕ) (ws : List CWord) (rest : Words) → texts i all (variable_words k ws rest) ≡ spell_words k ws (texts i all rest)
variables_tied i all k [] rest = refl
variables_tied i all k (w ∷ more) rest =
    let e : suc k ≡ k + 1 = omega arith in
    start_tied i all w (word.Var k) (variable_words (suc k) more rest)
    ∙ ap (λ l. spell_start w (var_text k) l) (variables_tied i all (suc k) more rest)
    ∙ ap (λ n. spell_start w (var_text k) (spell_words n more (texts i all rest))) e

counters_tied : (i : Signature) (all : Arrays) (kind : CounterKind) (k n : ℕ) (rest : Words) → texts i all (counter_words kind k n rest) ≡ spell_counters (letter_of kind) k n (texts i all rest)
counters_tied i all kind k zero rest = refl
counters_tied i all kind k (suc n) rest =
    let e : suc k ≡ k + 1 = omega arith in
    start_tied i all I64 (word.Counter (record { kind = kind; number = k })) (counter_words kind (suc k) n rest)
    ∙ ap (λ l. spell_start I64 (letter_of kind ++ decimal k) l) (counters_tied i all kind (suc k) n rest)
    ∙ ap (λ m. spell_start I64 (letter_of kind ++ decimal k) (spell_counters (letter_of kind) m n (texts i all rest))) e

locals_known : (all : Arrays) (k : ℕ) (ys : List LocalArray) (rest : Words) → Stands all.locals k (locals_from k ys) → All IsLocalArray ys → AllKnown all rest → AllKnown all (local_words k ys rest)
locals_known all k [] rest h m it = it
locals_known all k (a ∷ more) rest h m it =
    let one : Array = record { name = codes "m" ++ decimal k; container = a.container; extent = a.count } in
    let next = locals_from (suc k) more in (
      tt,
      (
        some_stands all.locals k one (first_stands all.locals k one next h),
        (
          tt,
          (
            (let most = (m 0 a (omega arith)).most in omega arith),
            (
              tt,
              (
                tt,
                (
                  tt,
                  (
                    omega arith,
                    (
                      tt,
                      (
                        tt,
                        locals_known all (suc k) more rest (rest_stands all.locals k one next h) (λ j d n. m (suc j) d (omega arith)) it,
                      ),
                    ),
                  ),
                ),
              ),
            ),
          ),
        ),
      ),
    )

start_known : (all : Arrays) (w : CWord) (name : CWordToken) (rest : Words) → IsKnown all name → AllKnown all rest → AllKnown all (start_words w name rest)
start_known all w name rest h it = (type_known all w, (h, (tt, (tt, (tt, (omega arith, (tt, (tt, it))))))))

variables_known : (all : Arrays) (k : ℕ) (ws : List CWord) (rest : Words) → k + length ws < 2 ^ 32 → AllKnown all rest → AllKnown all (variable_words k ws rest)
variables_known all k [] rest h it = it
variables_known all k (w ∷ more) rest h it =
    start_known all w (word.Var k) (variable_words (suc k) more rest) (omega arith) (variables_known all (suc k) more rest (omega arith) it)

counters_known : (all : Arrays) (kind : CounterKind) (k n : ℕ) (rest : Words) → k + n < 2 ^ 32 → AllKnown all rest → AllKnown all (counter_words kind k n rest)
counters_known all kind k zero rest h it = it
counters_known all kind k (suc n) rest h it =
    start_known all I64 (word.Counter (record { kind = kind; number = k })) (counter_words kind (suc k) n rest) (omega arith) (counters_known all kind (suc k) n rest (omega arith) it)

-- ---- the program

declarations_tied : (p : Program) (rest : Words) → texts p.interface (arrays_of p) (declaration_words p rest) ≡ spell_declarations p (texts p.interface (arrays_of p) rest)
declarations_tied p rest =
    let i = p.interface in
    let all = arrays_of p in
    let turns = counter_words counter.Turn 0 p.turns rest in
    let sources = counter_words counter.Source 0 p.sources turns in
    let barriers = counter_words counter.Barrier 0 p.barriers sources in
    let groups = counter_words counter.Group 0 p.groups barriers in
    locals_tied i all 0 p.arrays (variable_words 0 p.words groups) (whole_stands all.locals)
    ∙ ap (λ l. spell_locals all.locals l) (variables_tied i all 0 p.words groups
    ∙ ap (λ l. spell_words 0 p.words l) (counters_tied i all counter.Group 0 p.groups barriers
    ∙ ap (λ l. spell_counters (codes "g") 0 p.groups l) (counters_tied i all counter.Barrier 0 p.barriers sources
    ∙ ap (λ l. spell_counters (codes "b") 0 p.barriers l) (counters_tied i all counter.Source 0 p.sources turns
    ∙ ap (λ l. spell_counters (codes "k") 0 p.sources l) (counters_tied i all counter.Turn 0 p.turns rest)))))

program_tied : (p : Program) → texts p.interface (arrays_of p) (words_of p) ≡ spelled p
program_tied p =
    let i = p.interface in
    let all = arrays_of p in
    let body = block_words all p.body (word.Sign sign.CloseBrace ∷ []) in
    ap (λ l. codes "int32_t" ∷ function_name i.entry ∷ codes "(" ∷ l)
    (parameters_tied i all (input_arrays i) (output_arrays i) (word.Sign sign.Close ∷ word.Sign sign.OpenBrace ∷ declaration_words p body) (whole_stands all.inputs) (whole_stands all.outputs))
    ∙ ap (λ l. spell_header p l) (declarations_tied p body ∙ ap (λ l. spell_declarations p l) (block_tied i all p.body (word.Sign sign.CloseBrace ∷ [])))

small_scope : (p : Program) → IsWellFormed p → IsSmall (scope_of p)
small_scope p h = record { words = h.declarations.few_words; counters = h.declarations.few_counters }

pub program_known : (p : Program) → IsWellFormed p → AllKnown (arrays_of p) (words_of p)
program_known p h =
    let all = arrays_of p in
    let i = p.interface in
    let few = h.declarations.few_counters in (
      tt,
      (
        tt,
        (
          tt,
          parameters_known all (input_arrays i) (output_arrays i) _ (whole_stands all.inputs) (whole_stands all.outputs)
              (slots_small input_fronts i.inputs h.interface.inputs) (slots_small output_fronts i.outputs h.interface.outputs) (
                tt,
                (
                  tt,
                  locals_known all 0 p.arrays _ (whole_stands all.locals) h.declarations.arrays
                      (variables_known all 0 p.words _ (let m = h.declarations.few_words in omega arith)
                      (counters_known all counter.Group 0 p.groups _ (let m = few counter.Group in omega arith)
                      (counters_known all counter.Barrier 0 p.barriers _ (let m = few counter.Barrier in omega arith)
                      (counters_known all counter.Source 0 p.sources _ (let m = few counter.Source in omega arith)
                      (counters_known all counter.Turn 0 p.turns _ (let m = few counter.Turn in omega arith)
                      (block_known (scope_of p) (small_scope p h) false p.body _ h.statements (tt, tt))))))),
                ),
              ),
        ),
      ),
    )

-- ---- beside the interface alone

locals_named : (k n : ℕ) (ys : List LocalArray) → is_some (slice_get (locals_from k ys) n) ≡ true → (text_or_none (λ a. a.name) (slice_get (locals_from k ys) n) ≡ codes "m" ++ decimal (k + n)) × (n < length ys)
locals_named k n [] h = absurd cc
locals_named k zero (a ∷ more) h = let e : k ≡ k + 0 = omega arith in (ap (λ m. codes "m" ++ decimal m) e, omega arith)
locals_named k (suc n) (a ∷ more) h =
    let it = locals_named (suc k) n more h in
    let e : suc k + n ≡ k + suc n = omega arith in
    (it.0 ∙ ap (λ m. codes "m" ++ decimal m) e, (let m = it.1 in omega arith))

array_tied : (p : Program) (a : CArray) → is_some (array_at (arrays_of p) a) ≡ true → text_in p.interface (arrays_of p) (word.Array a) ≡ text_of p.interface (word.Array a)
array_tied p (array.Input k) h = refl
array_tied p (array.Output k) h = refl
array_tied p (array.Local k) h =
    let e : 0 + k ≡ k = omega arith in
    (locals_named 0 k p.arrays h).0 ∙ ap (λ m. codes "m" ++ decimal m) e

same_text : (p : Program) (w : CWordToken) → IsKnown (arrays_of p) w → text_in p.interface (arrays_of p) w ≡ text_of p.interface w
same_text p (word.Array a) h = array_tied p a h
same_text p w h = refl

same_texts : (p : Program) (ws : Words) → AllKnown (arrays_of p) ws → texts p.interface (arrays_of p) ws ≡ map (text_of p.interface) ws
same_texts p [] h = refl
same_texts p (w ∷ ws) h =
    ap (λ t. t ∷ texts p.interface (arrays_of p) ws) (same_text p w h.0) ∙ ap (λ l. text_of p.interface w ∷ l) (same_texts p ws h.1)

pub spelled_words : (p : Program) → IsWellFormed p → map (text_of p.interface) (words_of p) ≡ spelled p
spelled_words p h = sym (same_texts p (words_of p) (program_known p h)) ∙ program_tied p

array_token : (p : Program) → length p.arrays < 2 ^ 32 → (a : CArray) → is_some (array_at (arrays_of p) a) ≡ true → IsArrayOf p.interface a
array_token p few (array.Input k) h = h
array_token p few (array.Output k) h = h
array_token p few (array.Local k) h = let m = (locals_named 0 k p.arrays h).1 in omega arith

token_of : (p : Program) → length p.arrays < 2 ^ 32 → (w : CWordToken) → IsKnown (arrays_of p) w → IsToken p.interface w
token_of p few (word.Array a) h = array_token p few a h
token_of p few (word.Type c) h = tt
token_of p few word.Function h = tt
token_of p few (word.Number n) h = h
token_of p few (word.Var k) h = h
token_of p few (word.Counter c) h = h
token_of p few (word.Macro m) h = tt
token_of p few (word.Keyword k) h = tt
token_of p few (word.Rel r) h = tt
token_of p few (word.Op o) h = tt
token_of p few (word.Sign s) h = tt
token_of p few word.Other h = h

-- each word is a token of the interface
abbrev pub AllTokens : Signature → Words → Type 0
AllTokens i [] = Unit {0}
AllTokens i (w ∷ ws) = IsToken i w × AllTokens i ws

all_tokens : (p : Program) → length p.arrays < 2 ^ 32 → (ws : Words) → AllKnown (arrays_of p) ws → AllTokens p.interface ws
all_tokens p few [] h = tt
all_tokens p few (w ∷ ws) h = (token_of p few w h.0, all_tokens p few ws h.1)

pub program_tokens : (p : Program) → IsWellFormed p → AllTokens p.interface (words_of p)
program_tokens p h = all_tokens p h.declarations.few_arrays (words_of p) (program_known p h)
