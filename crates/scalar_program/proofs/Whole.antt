-- The program of a function does what the function does.
use Rattle.std.proofs.Common.{◌≡◌, ◌≢◌, ℕ, ◌^◌, ◌<◌, ◌≤◌, Bool, true, false, List, [], ◌∷◌, ◌++◌, length, map, ℤ, Some, refl, sym, ap, ◌∙◌, subst, arith, append_assoc, append-nil, if◌then◌else◌, lit<}
use Rattle.std.specs.Prelude.{slice_get, flat_map, All, AllPairs, bytes_eq}
use Rattle.std.proofs.lemmas.List.Elements.{All-nil, All-cons}
use Rattle.mat_ast.specs.declared.tree.Ident.{Ident}
use Rattle.mat_ast.specs.Tree.{Fun}
use Rattle.num_type.specs.declared.num_type.NumType.{NumType}
use Rattle.num_type.specs.View.{type_of}
use Rattle.num_type.specs.Types.{NumericType, IsWithin}
use Rattle.fi_eval.specs.Outcome as got
use Rattle.fi_rules.specs.Value.{Val}
use Rattle.fi_eval.specs.Meaning as source
use Rattle.fi_eval.specs.Meaning.{Env, Context, context_of, names_of, targets_of_block, evaluated, entered, function_named, bound}
use Rattle.c_tree.specs.declared.tree.CWord.{CWord}
use Rattle.c_tree.specs.declared.tree.CWord.TheVariants.{I64, U64}
use Rattle.c_tree.specs.declared.tree.CounterKind.{CounterKind}
use Rattle.c_tree.specs.declared.tree.CounterKind.TheVariants as counter
use Rattle.c_tree.specs.Tree.{Sta, Return, Block, Done, Next, Slot, Program}
use Rattle.c_tree.specs.View.{block_of}
use Rattle.c_tree.specs.Names.{counters_of}
use Rattle.c_tree.specs.WellFormed.{Scope, scope_of, IsWellFormed, IsLocalArray, last_is_return}
use Rattle.c_tree.specs.Depth.{depth, depth_limit}
use Rattle.c_tree.specs.Outcome.{bind}
use Rattle.c_tree.specs.Meaning.{State, run_block}
use Rattle.c_tree.specs.Run.{Ended, run, start, result_of, zero_word}
use Rattle.c_tree.specs.Tokens.{body_token, closing_token}
use Rattle.scalar_program.specs.Lowered.{Operand, Names, Emitted, IsBlockLowered, IsFunctionLowered, outputs_lowered, stores_from, inputs_from, no_names, real_slots, nothing_emitted, program_of}
use Rattle.scalar_program.specs.Correspondence as match
use Rattle.scalar_program.specs.Correspondence.{AreDeclared, AreFilled, Corresponds, Behaves, IsProgramOf, form_of, value_form}
use Rattle.scalar_program.proofs.Runs.{word_type, before, RunsTo, some_is}
use Rattle.scalar_program.proofs.Operators.{fi_of}
use Rattle.scalar_program.proofs.Expressions.{Sees}
use Rattle.std.proofs.lemmas.Slice.Eq.{bytes_eq-Decides}
use Rattle.scalar_program.proofs.Blocks.{Covers, block_runs, any_front, any_behind}
use Rattle.scalar_program.proofs.Starts.{inputs_see, AreFis, outputs_give, nums_of, items_in, stores_run}
use Rattle.scalar_program.proofs.Forms.{ArePlain, plain_append, NamesGood}
use Rattle.scalar_program.specs.Right.{IsHeader}
use Rattle.scalar_program.proofs.Programs.{real_slots_fit, slots_apart, inputs_good, block_plain, outputs_good, nums_within, stores_plain, plain_fit, plain_counters, plain_shallow, returns_last, return_plain}

-- ---- well formed

slots_some : (os : List Ident) (ts : List NumericType) → os ≢ [] → length os ≡ length ts → real_slots os ts ≢ []
slots_some [] ts some same e = some refl
slots_some (o ∷ os) [] some same e = absurd (omega (arith, same))
slots_some (o ∷ os) (t ∷ ts) some same e = cc

append_some : {A : Type 0} (xs ys : List A) → ys ≢ [] → xs ++ ys ≢ []
append_some [] ys some e = some e
append_some (x ∷ xs) ys some e = cc

map_length : (os : List Operand) → length (nums_of os) ≡ length os
map_length [] = refl
map_length (o ∷ os) = omega (arith, map_length os)

no_names_good : (sc : Scope) → NamesGood sc no_names
no_names_good sc name o h = absurd (cc)

statements_plain : (cx : Context) (f : Fun) (ts : List NumericType) (em : Emitted) (names : Names) (outs : List Operand) → IsBlockLowered f.body cx (inputs_from 0 f.inputs ts no_names) nothing_emitted (record { names = names; emitted = em }) → outputs_lowered f.outputs names ≡ Some outs → All IsWithin ts → ArePlain (scope_of (program_of f ts em outs)) (em.sets ++ (stores_from 0 outs ++ (Return 0 ∷ []))) × All IsWithin (nums_of outs) × (length outs ≡ length f.outputs)
statements_plain cx f ts em names outs body h within =
    let sc : Scope = scope_of (program_of f ts em outs) in
    let good = inputs_good f.inputs ts 0 no_names sc (λ j. ap (slice_get sc.arrays.inputs) (omega arith)) within (no_names_good sc) in
    let b = block_plain f.body cx (inputs_from 0 f.inputs ts no_names) nothing_emitted (record { names = names; emitted = em }) body sc [] (sym (append-nil em.words)) good tt in
    let o = outputs_good f.outputs names outs sc h b.1 in
    let s = stores_plain f.outputs outs 0 sc (λ j. ap (slice_get sc.arrays.outputs) (omega arith)) o.1 o.0 in
    (plain_append sc em.sets _ b.0 (plain_append sc (stores_from 0 outs) _ s (return_plain sc, tt)), nums_within sc outs o.0, o.1)

no_counters : (f : Fun) (ts : List NumericType) (em : Emitted) (outs : List Operand) (kind : CounterKind) → counters_of (program_of f ts em outs) kind < 2 ^ 32
no_counters f ts em outs counter.Group = lit< tt
no_counters f ts em outs counter.Barrier = lit< tt
no_counters f ts em outs counter.Source = lit< tt
no_counters f ts em outs counter.Turn = lit< tt

well_formed : (cx : Context) (f : Fun) (ts : List NumericType) (em : Emitted) (names : Names) (outs : List Operand) → IsHeader f → All IsWithin ts → length em.words < 2 ^ 32 → IsBlockLowered f.body cx (inputs_from 0 f.inputs ts no_names) nothing_emitted (record { names = names; emitted = em }) → outputs_lowered f.outputs names ≡ Some outs → IsWellFormed (program_of f ts em outs) × (depth (program_of f ts em outs) ≤ depth_limit)
well_formed cx f ts em names outs header within few body h =
    let p : Program = program_of f ts em outs in
    let sc : Scope = scope_of p in
    let ss : List Sta = em.sets ++ (stores_from 0 outs ++ (Return 0 ∷ [])) in
    let plain = statements_plain cx f ts em names outs body h within in
    let outs_len : length f.outputs ≡ length (nums_of outs) = sym plain.2 ∙ sym (map_length outs) in
    let some : real_slots f.inputs ts ++ real_slots f.outputs (nums_of outs) ≢ [] = append_some (real_slots f.inputs ts) (real_slots f.outputs (nums_of outs)) (slots_some f.outputs (nums_of outs) header.any outs_len) in
    let last = returns_last (em.sets ++ stores_from 0 outs) in (
      record {
        interface = record {
          entry = header.name;
          inputs = real_slots_fit f.inputs ts header.inputs within;
          outputs = real_slots_fit f.outputs (nums_of outs) header.outputs plain.1;
          inputs_differ = slots_apart f.inputs ts header.inputs_differ;
          outputs_differ = slots_apart f.outputs (nums_of outs) header.outputs_differ;
          any = some;
        };
        declarations = record { arrays = All-nil IsLocalArray; few_arrays = lit< tt; few_words = few; few_counters = no_counters f ts em outs };
        statements = plain_fit sc ss plain.0;
        counters_serve_once = subst (AllPairs (λ c d. c ≢ d)) (sym (plain_counters sc ss plain.0)) (λ i j d l m. absurd (omega (arith, l, m)));
        returns = ap last_is_return (ap block_of (sym (append_assoc em.sets (stores_from 0 outs) (Return 0 ∷ [])))) ∙ last;
      },
      omega (arith, plain_shallow sc ss plain.0),
    )

-- ---- behaviour

before_block : (xs ys : List Sta) → block_of (xs ++ ys) ≡ before xs (block_of ys)
before_block [] ys = refl
before_block (x ∷ xs) ys = ap (Next x) (before_block xs ys)

zero_types : (ws : List CWord) → map word_type (map zero_word ws) ≡ ws
zero_types [] = refl
zero_types (I64 ∷ ws) = ap (λ l. I64 ∷ l) (zero_types ws)
zero_types (U64 ∷ ws) = ap (λ l. U64 ∷ l) (zero_types ws)

no_names_seen : (cx : Context) (env : Env) (st : State) → Sees no_names cx env st 0
no_names_seen cx env st name o h = absurd (cc)

-- what the outputs hold
arrays_held : (outs : List Operand) (zs : List ℤ) (vs : List Val) → AreFis outs zs vs → flat_map match.value_arrays vs ≡ map (λ z. z ∷ []) zs
arrays_held [] [] [] h = refl
arrays_held [] [] (v ∷ vs) h = absurd h
arrays_held [] (z ∷ zs) vs h = absurd h
arrays_held (o ∷ os) [] vs h = absurd h
arrays_held (o ∷ os) (z ∷ zs) [] h = absurd h
arrays_held (o ∷ os) (z ∷ zs) (v ∷ vs) h =
    ap (λ w. match.value_arrays w ++ flat_map match.value_arrays vs) h.0.1 ∙ ap (λ l. (z ∷ []) ∷ l) (arrays_held os zs vs h.1)

forms_held : (is : List Ident) (outs : List Operand) (zs : List ℤ) (vs : List Val) → length outs ≡ length is → AreFis outs zs vs → map (λ s. Some (form_of s)) (real_slots is (nums_of outs)) ≡ map value_form vs
forms_held [] [] [] [] same h = refl
forms_held [] [] [] (v ∷ vs) same h = absurd h
forms_held [] [] (z ∷ zs) vs same h = absurd h
forms_held [] (o ∷ os) zs vs same h = absurd (omega (arith, same))
forms_held (i ∷ is) [] zs vs same h = absurd (omega (arith, same))
forms_held (i ∷ is) (o ∷ os) [] vs same h = absurd h
forms_held (i ∷ is) (o ∷ os) (z ∷ zs) [] same h = absurd h
forms_held (i ∷ is) (o ∷ os) (z ∷ zs) (v ∷ vs) same h =
    ap (λ l. value_form (fi_of o.num h.0.0 z) ∷ l) (forms_held is os zs vs (omega (arith, same)) h.1) ∙ ap (λ w. value_form w ∷ map value_form vs) (sym h.0.1)

-- the end of a run
ends : (p : Program) (ss stores : List Sta) (n : ℕ) (st mid after : State) (closing at : ℕ) → RunsTo ss st mid → RunsTo stores mid after → result_of closing (run_block (block_of (ss ++ (stores ++ (Return 0 ∷ [])))) n st at) ≡ Ended 0 (items_in after.outputs)
unfolding bind
ends p ss stores n st mid after closing at one two =
    let rest : Block = Next (Return 0) Done in
    let a = one.does (before stores rest) n at in
    let b = two.does rest n a.0 in
    ap (λ d. result_of closing (run_block d n st at)) (before_block ss (stores ++ (Return 0 ∷ [])) ∙ ap (before ss) (before_block stores (Return 0 ∷ [])))
    ∙ ap (result_of closing) (a.1 ∙ b.1)

evaluates : (fs : List Fun) (entry : List ℕ) (f : Fun) (vals : List Val) (n : ℕ) (env env_after : Env) (results : List Val) → function_named fs entry ≡ Some f → bound f.inputs vals [] ≡ Some env → source.run_block f.body (context_of fs f) n env ≡ got.Gives (source.Went env_after) → source.outputs f.outputs env_after ≡ got.Gives results → evaluated fs entry vals n ≡ got.Gives results
unfolding got.bind got.or_wrong
evaluates fs entry f vals n env env_after results found b r o =
    ap (λ x. got.bind (got.or_wrong source.start x) (λ f. entered fs f vals n)) found
    ∙ ap (λ x. got.bind (got.or_wrong f.name.place x) (λ env. got.bind (source.run_block f.body (context_of fs f) n env) (λ flow. source.outputs f.outputs (source.env_of flow)))) b
    ∙ ap (λ x. got.bind x (λ flow. source.outputs f.outputs (source.env_of flow))) r
    ∙ o

covers_inputs : (fs : List Fun) (f : Fun) → Covers (context_of fs f) (names_of f.inputs)
covers_inputs fs f name h = any_front (λ other. bytes_eq other name) (names_of f.inputs ++ names_of f.outputs) (targets_of_block f.body) (any_front (λ other. bytes_eq other name) (names_of f.inputs) (names_of f.outputs) h)

covers_targets : (fs : List Fun) (f : Fun) → Covers (context_of fs f) (targets_of_block f.body)
covers_targets fs f name h = any_behind (λ other. bytes_eq other name) (names_of f.inputs ++ names_of f.outputs) (targets_of_block f.body) h

behaves : (cx : Context) (fs : List Fun) (entry : List ℕ) (f : Fun) (ts : List NumericType) (em : Emitted) (names : Names) (outs : List Operand) → function_named fs entry ≡ Some f → context_of fs f ≡ cx → length f.inputs ≡ length ts → All IsWithin ts → IsBlockLowered f.body cx (inputs_from 0 f.inputs ts no_names) nothing_emitted (record { names = names; emitted = em }) → outputs_lowered f.outputs names ≡ Some outs → Behaves fs entry (program_of f ts em outs)
behaves cx fs entry f ts em names outs found here same within body_cx h vals olds n ins filled_outs =
    let p : Program = program_of f ts em outs in
    let st : State = start p (match.all_arrays vals) olds in
    let vs = context_of fs f in
    let body : IsBlockLowered f.body vs (inputs_from 0 f.inputs ts no_names) nothing_emitted (record { names = names; emitted = em }) =
    subst (λ c. IsBlockLowered f.body c (inputs_from 0 f.inputs ts no_names) nothing_emitted (record { names = names; emitted = em })) (sym here) body_cx in
    let one = inputs_see f.inputs ts vals 0 [] no_names vs [] st refl same ins within refl (covers_inputs fs f) (no_names_seen vs [] st) in
    let r = block_runs f.body (inputs_from 0 f.inputs ts no_names) vs one.0 nothing_emitted (record { names = names; emitted = em }) body (covers_targets fs f) st em.words [] one.2 (zero_types em.words) (sym (append-nil em.words)) in
    let o = outputs_give f.outputs names vs r.env_after r.after (length em.words) outs h r.sees in
    let s = stores_run f.outputs outs o.zs 0 [] olds r.after refl o.count o.stand filled_outs r.keeps.outputs in
    let sets_is : em.sets ≡ r.more = r.is in
    let ran : run p (match.all_arrays vals) olds n ≡ Ended 0 (map (λ z. z ∷ []) o.zs) =
    ap (λ l. result_of (closing_token p) (run_block (block_of (l ++ (stores_from 0 outs ++ (Return 0 ∷ [])))) n st (body_token p))) sets_is
    ∙ ends p r.more (stores_from 0 outs) n st r.after s.after (closing_token p) (body_token p) r.does s.does
    ∙ ap (Ended 0) s.holds in
    let value : evaluated fs entry vals n ≡ got.Gives o.vs = evaluates fs entry f vals n one.0 r.env_after o.vs found one.1 (r.gives n) o.gives in
    let both : Corresponds p.interface (got.Gives o.vs) (Ended 0 (map (λ z. z ∷ []) o.zs)) =
    (refl, sym (arrays_held outs o.zs o.vs o.fis), forms_held f.outputs outs o.zs o.vs o.count o.fis) in
    subst (λ g. Corresponds p.interface g (run p (match.all_arrays vals) olds n)) (sym value)
    (subst (Corresponds p.interface (got.Gives o.vs)) (sym ran) both)

-- ---- the whole

function_name : (fs : List Fun) (entry : List ℕ) (f : Fun) → function_named fs entry ≡ Some f → f.name.text ≡ entry
function_name [] entry f h = absurd (cc)
function_name (g ∷ fs) entry f h = by (bytes_eq g.name.text entry) refl h (function_name fs entry f)
  where
    by : (b : Bool) → bytes_eq g.name.text entry ≡ b → (if b then Some g else function_named fs entry) ≡ Some f → (function_named fs entry ≡ Some f → f.name.text ≡ entry) → f.name.text ≡ entry
    by true e q rec = let g_is : g ≡ f = cc in ap (λ x. x.name.text) (sym g_is) ∙ (bytes_eq-Decides g.name.text entry).0 e
    by false e q rec = rec q

slot_names : (is : List Ident) (ts : List NumericType) → length is ≡ length ts → map (λ (s : Slot). s.name) (real_slots is ts) ≡ names_of is
slot_names [] ts same = refl
slot_names (i ∷ is) [] same = absurd (omega (arith, same))
slot_names (i ∷ is) (t ∷ ts) same = ap (λ l. i.text ∷ l) (slot_names is ts (omega (arith, same)))

-- the program of a function is one of its file
pub program_right : (cx : Context) (fs : List Fun) (entry : List ℕ) (f : Fun) (ts : List NumericType) (p : Program) → function_named fs entry ≡ Some f → context_of fs f ≡ cx → length f.inputs ≡ length ts → IsHeader f → All IsWithin ts → length p.words < 2 ^ 32 → IsFunctionLowered cx f ts p → IsProgramOf fs entry (real_slots f.inputs ts) p
program_right cx fs entry f ts p found here same header within few q =
    let body : IsBlockLowered f.body cx (inputs_from 0 f.inputs ts no_names) nothing_emitted (record { names = q.behind.names; emitted = q.behind.emitted }) = q.body in
    let words : length q.behind.emitted.words < 2 ^ 32 = subst (λ r. length r.words < 2 ^ 32) (sym q.is) few in
    let form = well_formed cx f ts q.behind.emitted q.behind.names q.outs header within words body q.outputs in
    let some_f : (g : Fun) → function_named fs entry ≡ Some g → f ≡ g = λ g e. some_is f g (sym found ∙ e) in
    let plain = statements_plain cx f ts q.behind.emitted q.behind.names q.outs body q.outputs within in
    subst (IsProgramOf fs entry (real_slots f.inputs ts)) q.is (record {
      well_formed = form.0;
      shallow = form.1;
      named = function_name fs entry f found;
      takes = refl;
      gives = λ g e. slot_names f.outputs (nums_of q.outs) (sym plain.2 ∙ sym (map_length q.outs)) ∙ ap (λ x. names_of x.outputs) (some_f g e);
      behaves = behaves cx fs entry f ts q.behind.emitted q.behind.names q.outs found here same within body q.outputs;
    })

-- types of the code are within the limits
pub all_within : (ts : List NumType) → All IsWithin (map type_of ts)
all_within [] = All-nil IsWithin
all_within (t ∷ ts) = All-cons IsWithin (type_of t) (map type_of ts) (record { one_bit = t.one_bit; bits = t.bits; least = t.least; most = t.most }) (all_within ts)
