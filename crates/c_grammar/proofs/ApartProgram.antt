-- The words of a whole program are those of no other one of its interface.
use Rattle.std.proofs.Common.{◌≡◌, ℕ, zero, suc, ◌≤◌, ◌<◌, List, [], ◌∷◌, refl, sym, ap, ◌∙◌, arith, subst}
use Rattle.c_tree.specs.declared.tree.CounterKind.{CounterKind}
use Rattle.c_tree.specs.declared.tree.CounterKind.TheVariants as counter
use Rattle.c_tree.specs.declared.tree.CWord.{CWord}
use Rattle.c_tree.specs.declared.tree.CWord.TheVariants.{I64, U64}
use Rattle.c_tree.specs.declared.tree.LocalArray.{LocalArray}
use Rattle.c_tree.specs.declared.array_names.Array.{Array}
use Rattle.c_tree.specs.declared.array_names.Arrays.{Arrays}
use Rattle.c_tree.specs.Names.{arrays_of, input_arrays, output_arrays}
use Rattle.c_tree.specs.Tree.{Signature, Sta, Set, Store, If, IfElse, For, While, Break, Continue, Return, Block, Done, Next, Program}
use Rattle.c_grammar.specs.declared.word.CSign.TheVariants as sign
use Rattle.c_grammar.specs.declared.word.CWordToken.{CWordToken}
use Rattle.c_grammar.specs.declared.word.CWordToken.TheVariants as word
use Rattle.c_grammar.specs.Sentence.{Words, sta_words, block_words, output_words, input_words, parameter_words, header_words, local_words, start_words, variable_words, counter_words, words_of}
use Rattle.c_grammar.proofs.Apart.{tail, head, type_same, same_block}

-- where a kind of counters stands among the declarations
abbrev rank : CounterKind → ℕ
rank counter.Group = 2
rank counter.Barrier = 3
rank counter.Source = 4
rank counter.Turn = 5

-- what is declared first: local arrays go before variables, and these before the counters
declares : Words → ℕ
declares (word.Type c ∷ word.Array a ∷ rest) = 0
declares (word.Type c ∷ word.Var k ∷ rest) = 1
declares (word.Type c ∷ word.Counter d ∷ rest) = rank d.kind
declares _ = 6

starts_variable : (w : CWord) (k : ℕ) (r : Words) → declares (start_words w (word.Var k) r) ≡ 1
unfolding declares
starts_variable I64 k r = refl
starts_variable U64 k r = refl

starts_counter : (kind : CounterKind) (k : ℕ) (r : Words) → declares (start_words I64 (word.Counter (record { kind = kind; number = k })) r) ≡ rank kind
unfolding declares
starts_counter kind k r = refl

starts_local : (k : ℕ) (a : LocalArray) (r : List LocalArray) (rest : Words) → declares (local_words k (a ∷ r) rest) ≡ 0
unfolding declares
starts_local k a r rest = refl

-- what goes before is none of what follows
clash : (n m : ℕ) (r s : Words) → n < declares r → declares s ≡ n → r ≡ s → ⊥
clash n m r s h k e = let g : declares r ≡ declares s = ap declares e in omega arith

local_same : (k : ℕ) (a b : LocalArray) (r s : Words) (xs ys : List LocalArray) → local_words k (a ∷ xs) r ≡ local_words k (b ∷ ys) s → (a ≡ b) × (local_words (suc k) xs r ≡ local_words (suc k) ys s)
local_same k a b r s xs ys h =
    let c : a.container ≡ b.container = cc in
    let n : a.count ≡ b.count = cc in
    (one_record a b c n, tail (tail (tail (tail (tail (tail (tail (tail (tail (tail h))))))))))
  where
    one_record : (a b : LocalArray) → a.container ≡ b.container → a.count ≡ b.count → a ≡ b
    one_record a b c n = λ i. record { container = c i; count = n i }

locals_same : (k : ℕ) (xs ys : List LocalArray) (r s : Words) → 0 < declares r → 0 < declares s → local_words k xs r ≡ local_words k ys s → (xs ≡ ys) × (r ≡ s)
locals_same k [] [] r s m n h = (refl, h)
locals_same k [] (b ∷ ys) r s m n h = absurd (clash 0 0 r _ m (starts_local k b ys s) h)
locals_same k (a ∷ xs) [] r s m n h = absurd (clash 0 0 s _ n (starts_local k a xs r) (sym h))
locals_same k (a ∷ xs) (b ∷ ys) r s m n h =
    let one = local_same k a b r s xs ys h in
    let more = locals_same (suc k) xs ys r s m n one.1 in
    (let e : a ≡ b = one.0 in let f : xs ≡ ys = more.0 in cc, more.1)

start_same : (v w : CWord) (name : CWordToken) (r s : Words) → start_words v name r ≡ start_words w name s → (v ≡ w) × (r ≡ s)
start_same v w name r s h = (type_same v w (head h), tail (tail (tail (tail (tail (tail (tail (tail h))))))))

variables_same : (k : ℕ) (vs ws : List CWord) (r s : Words) → 1 < declares r → 1 < declares s → variable_words k vs r ≡ variable_words k ws s → (vs ≡ ws) × (r ≡ s)
variables_same k [] [] r s m n h = (refl, h)
variables_same k [] (w ∷ ws) r s m n h = absurd (clash 1 0 r _ m (starts_variable w k _) h)
variables_same k (v ∷ vs) [] r s m n h = absurd (clash 1 0 s _ n (starts_variable v k _) (sym h))
variables_same k (v ∷ vs) (w ∷ ws) r s m n h =
    let one = start_same v w (word.Var k) _ _ h in
    let more = variables_same (suc k) vs ws r s m n one.1 in
    (let e : v ≡ w = one.0 in let f : vs ≡ ws = more.0 in cc, more.1)

counters_same : (kind : CounterKind) (k i j : ℕ) (r s : Words) → rank kind < declares r → rank kind < declares s → counter_words kind k i r ≡ counter_words kind k j s → (i ≡ j) × (r ≡ s)
counters_same kind k zero zero r s m n h = (refl, h)
counters_same kind k zero (suc j) r s m n h = absurd (clash (rank kind) 0 r _ m (starts_counter kind k _) h)
counters_same kind k (suc i) zero r s m n h = absurd (clash (rank kind) 0 s _ n (starts_counter kind k _) (sym h))
counters_same kind k (suc i) (suc j) r s m n h =
    let one = start_same I64 I64 (word.Counter (record { kind = kind; number = k })) _ _ h in
    let more = counters_same kind (suc k) i j r s m n one.1 in
    (ap (λ n. suc n) more.0, more.1)

-- ---- what follows a declaration

sta_declares : (all : Arrays) (a : Sta) (r : Words) → declares (sta_words all a r) ≡ 6
unfolding declares
sta_declares all (Set k value) r = refl
sta_declares all (Store a at value) r = refl
sta_declares all (If t body) r = refl
sta_declares all (IfElse t body other) r = refl
sta_declares all (For c count body) r = refl
sta_declares all (While t body) r = refl
sta_declares all Break r = refl
sta_declares all Continue r = refl
sta_declares all (Return status) r = refl

block_declares : (all : Arrays) (b : Block) → declares (block_words all b (word.Sign sign.CloseBrace ∷ [])) ≡ 6
unfolding declares
block_declares all Done = refl
block_declares all (Next a more) = sta_declares all a _

counters_declare : (kind : CounterKind) (n least : ℕ) (r : Words) → least ≤ rank kind → least ≤ declares r → least ≤ declares (counter_words kind 0 n r)
counters_declare kind zero least r h k = k
counters_declare kind (suc n) least r h k = subst (λ m. least ≤ m) (sym (starts_counter kind 0 _)) h

variables_declare : (ws : List CWord) (r : Words) → 1 ≤ declares r → 1 ≤ declares (variable_words 0 ws r)
variables_declare [] r h = h
variables_declare (w ∷ ws) r h = subst (λ m. 1 ≤ m) (sym (starts_variable w 0 _)) (omega arith)

-- ---- the header

outputs_behind : (k : ℕ) (xs : List Array) (r s : Words) → output_words k xs r ≡ output_words k xs s → r ≡ s
outputs_behind k [] r s h = h
outputs_behind k (a ∷ xs) r s h = outputs_behind (suc k) xs r s (tail (tail (tail (tail (tail (tail h))))))

inputs_behind : (k : ℕ) (xs : List Array) (r s : Words) → input_words k xs r ≡ input_words k xs s → r ≡ s
inputs_behind k [] r s h = h
inputs_behind k (a ∷ xs) r s h = inputs_behind (suc k) xs r s (tail (tail (tail (tail (tail (tail (tail h)))))))

parameters_behind : (xs ys : List Array) (r s : Words) → parameter_words xs ys r ≡ parameter_words xs ys s → r ≡ s
parameters_behind [] [] r s h = h
parameters_behind [] (b ∷ ys) r s h = outputs_behind 1 ys r s (tail (tail (tail (tail (tail h)))))
parameters_behind (a ∷ xs) ys r s h = outputs_behind 0 ys r s (inputs_behind 1 xs _ _ (tail (tail (tail (tail (tail (tail h)))))))

pub header_behind : (i : Signature) (r s : Words) → header_words i r ≡ header_words i s → r ≡ s
header_behind i r s h = tail (tail (parameters_behind (input_arrays i) (output_arrays i) _ _ (tail (tail (tail h)))))

-- ---- the program

body_of : Program → Words
body_of p = block_words (arrays_of p) p.body (word.Sign sign.CloseBrace ∷ [])

turns_of : Program → Words
turns_of p = counter_words counter.Turn 0 p.turns (body_of p)

sources_of : Program → Words
sources_of p = counter_words counter.Source 0 p.sources (turns_of p)

barriers_of : Program → Words
barriers_of p = counter_words counter.Barrier 0 p.barriers (sources_of p)

groups_of : Program → Words
groups_of p = counter_words counter.Group 0 p.groups (barriers_of p)

turns_declare : (p : Program) → 5 < declares (body_of p)
unfolding body_of
turns_declare p = subst (λ n. 5 < n) (sym (block_declares (arrays_of p) p.body)) (omega arith)

sources_declare : (p : Program) → 4 < declares (turns_of p)
unfolding turns_of
sources_declare p = counters_declare counter.Turn p.turns 5 (body_of p) (omega arith) (let h = turns_declare p in omega arith)

barriers_declare : (p : Program) → 3 < declares (sources_of p)
unfolding sources_of
barriers_declare p = counters_declare counter.Source p.sources 4 (turns_of p) (omega arith) (let h = sources_declare p in omega arith)

groups_declare : (p : Program) → 2 < declares (barriers_of p)
unfolding barriers_of
groups_declare p = counters_declare counter.Barrier p.barriers 3 (sources_of p) (omega arith) (let h = barriers_declare p in omega arith)

words_declare : (p : Program) → 1 < declares (groups_of p)
unfolding groups_of
words_declare p = counters_declare counter.Group p.groups 2 (barriers_of p) (omega arith) (let h = groups_declare p in omega arith)

arrays_declare : (p : Program) → 0 < declares (variable_words 0 p.words (groups_of p))
arrays_declare p = variables_declare p.words (groups_of p) (let h = words_declare p in omega arith)

one_record : (p q : Program) → p.interface ≡ q.interface → p.arrays ≡ q.arrays → p.words ≡ q.words → p.groups ≡ q.groups → p.barriers ≡ q.barriers → p.sources ≡ q.sources → p.turns ≡ q.turns → p.body ≡ q.body → p ≡ q
one_record p q a b c d e f g h = λ i. record { interface = a i; arrays = b i; words = c i; groups = d i; barriers = e i; sources = f i; turns = g i; body = h i }

pub one_program : (p q : Program) → p.interface ≡ q.interface → words_of p ≡ words_of q → p ≡ q
unfolding body_of turns_of sources_of barriers_of groups_of
one_program p q e h =
    let behind = header_behind q.interface _ _ (sym (ap (λ i. header_words i (local_words 0 p.arrays (variable_words 0 p.words (groups_of p)))) e) ∙ h) in
    let arrays = locals_same 0 p.arrays q.arrays _ _ (arrays_declare p) (arrays_declare q) behind in
    let words = variables_same 0 p.words q.words _ _ (words_declare p) (words_declare q) arrays.1 in
    let groups = counters_same counter.Group 0 p.groups q.groups _ _ (groups_declare p) (groups_declare q) words.1 in
    let barriers = counters_same counter.Barrier 0 p.barriers q.barriers _ _ (barriers_declare p) (barriers_declare q) groups.1 in
    let sources = counters_same counter.Source 0 p.sources q.sources _ _ (sources_declare p) (sources_declare q) barriers.1 in
    let turns = counters_same counter.Turn 0 p.turns q.turns _ _ (turns_declare p) (turns_declare q) sources.1 in
    let body = same_block (arrays_of p) (arrays_of q) p.body q.body [] [] turns.1 in
    one_record p q e arrays.0 words.0 groups.0 barriers.0 sources.0 turns.0 body.0
