-- The statements of an operation lead to a state in which its value stands.
use Rattle.std.proofs.Common.{◌≡◌, ℕ, suc, ◌+◌, ◌≤◌, Bool, true, false, List, [], ◌∷◌, ◌++◌, length, map, ℤ, Option, Some, refl, sym, ap, ◌∙◌, subst, arith, append_assoc, length-append, if◌then◌else◌}
use Rattle.std.specs.Prelude.{slice_get}
use Rattle.num_type.specs.declared.methods.Rounding.{Rounding}
use Rattle.num_type.specs.declared.methods.Overflow.{Overflow}
use Rattle.num_type.specs.Types.{NumericType, IsWithin}
use Rattle.fi_quant.specs.Numbers.{quantised, fitted}
use Rattle.fi_quant.proofs.Exist.{fitted_inside}
use Rattle.fi_math.specs.declared.fimath.Fimath.{Fimath}
use Rattle.fi_math.specs.Made.{Is}
use Rattle.fi_rules.specs.declared.work.Work.{Work}
use Rattle.fi_rules.specs.declared.work.Work.TheVariants as work
use Rattle.fi_rules.specs.Types.{FiTy}
use Rattle.fi_rules.specs.Pairs.{work_made}
use Rattle.fi_ops.specs.Elements.{Element}
use Rattle.fi_ops.specs.Operations.{joined, multiplied, taken, aligned, common, negated, absolute}
use Rattle.fi_eval.specs.Calls.{taken as taken_in}
use Rattle.fi_eval.specs.Operators.{element, Turn, Negate, Remove, turned_element, math_of}
use Rattle.c_tree.specs.declared.tree.CWord.{CWord}
use Rattle.c_tree.specs.Tree.{Exp, Sta, Set, Block}
use Rattle.c_tree.specs.View.{block_of}
use Rattle.c_tree.specs.Tokens.{sta_tokens}
use Rattle.c_tree.specs.Outcome.{Outcome, Completes, UndefinedAt, PastBound, ◌>>=◌, bind}
use Rattle.c_tree.specs.Meaning.{State, Flow, Went, Broke, Continued, Returned, run_sta, run_block, then_run, with_word}
use Rattle.lower_scalar.specs.Part as part
use Rattle.lower_scalar.specs.Part.{Part, IsPart, IsAfter, Does, AreDeclared, AllStand, word_for, on_one, on_two}
use Rattle.scalar_program.specs.Lowered.{Operand, Emitted, Low, next_low, with_part, read_operand, Operates, IsOperated, IsTurned, IsTaken, Turns}
use Rattle.scalar_program.proofs.Ranges.{InRange, in_range_cases, cases_in_range}
use Rattle.scalar_program.proofs.Within.{operated_within}
use Rattle.scalar_program.proofs.Says.{Says, word_z, read_says}
use Rattle.scalar_program.proofs.Says.{Stands}
use Rattle.scalar_program.proofs.Runs.{word_type, word_z_type, before, RunsTo, runs_both, set_runs, get_mapped, get_set_same, get_set_other, set_typed, get_behind, IsBelow, Keeps, keeps_both}

-- a run of the statements of an operation, behind which its integer stands as a fi of this type and fimath
pub record Stepped (em : Emitted) (low : Low) (t : NumericType) (m : Option Fimath) (st : State) (all : List CWord) (z : ℤ) : Type 0 where
  pub more : List Sta
  pub is : low.emitted.sets ≡ em.sets ++ more
  pub after : State
  pub does : RunsTo more st after
  pub ty : low.held.ty ≡ FiTy t m
  pub stands : Stands after (record { spot = low.held.spot; num = t }) z
  pub below : IsBelow low.held.spot (length low.emitted.words)
  pub keeps : Keeps (length em.words) st after
  pub typed : map word_type after.words ≡ all
  pub wider : length em.words ≤ length low.emitted.words

-- the next variable takes a value
pub set_step : (em : Emitted) (t : NumericType) (m : Option Fimath) (e : Exp) (z : ℤ) (st : State) (all rest : List CWord) → Says e st (word_z t.signed z) → InRange t.signed t.word z → IsWithin t → map word_type st.words ≡ all → all ≡ (em.words ++ (word_for t.signed ∷ [])) ++ rest → Stepped em (next_low t m e em) t m st all z
set_step em t m e z st all rest says range limits typed fits =
    let k : ℕ = length em.words in
    let w = word_z t.signed z in
    let here : slice_get all k ≡ Some (word_for t.signed) =
    ap (λ ws. slice_get ws k) (fits ∙ append_assoc em.words (word_for t.signed ∷ []) rest) ∙ get_behind em.words rest (word_for t.signed) in
    let old = get_mapped st.words k (word_for t.signed) (ap (λ ws. slice_get ws k) typed ∙ here) in
    let same : word_type old.0 ≡ word_type w = old.2 ∙ sym (word_z_type t.signed z) in
    let after = with_word st k w in
    let one : length (em.words ++ (word_for t.signed ∷ [])) ≡ k + 1 = length-append em.words (word_for t.signed ∷ []) in
    record {
      more = Set k e ∷ [];
      is = refl;
      after = after;
      does = set_runs st k e w old.0 says old.1 same;
      ty = refl;
      stands = record { range = range; limits = limits; at = get_set_same st.words k w old.0 old.1 };
      below = omega (arith, one);
      keeps = record { inputs = refl; outputs = refl; words = λ j l. get_set_other st.words k j w l };
      typed = set_typed st.words k w old.0 old.1 same ∙ typed;
      wider = omega (arith, one);
    }

-- ---- parts

-- where the first statements end, the others go on
front_runs : (xs : List Sta) (rest : Block) (st mid : State) (n at : ℕ) → run_block (block_of xs) n st at ≡ Completes (Went mid) → (to : ℕ) × (run_block (before xs rest) n st at ≡ run_block rest n mid to)
unfolding bind
front_runs [] rest st mid n at h = let e : st ≡ mid = cc in (at, ap (λ s. run_block rest n s at) e)
front_runs (x ∷ xs) rest st mid n at h = by (λ s g. front_runs xs rest s mid n (at + sta_tokens x) g) (run_sta x n st at) refl h
  where
    by : ((s : State) → run_block (block_of xs) n s (at + sta_tokens x) ≡ Completes (Went mid) → (to : ℕ) × (run_block (before xs rest) n s (at + sta_tokens x) ≡ run_block rest n mid to)) → (o : Outcome Flow) → run_sta x n st at ≡ o → (o >>= (λ flow. then_run flow (λ s. run_block (block_of xs) n s (at + sta_tokens x)))) ≡ Completes (Went mid)
        → (to : ℕ) × ((run_sta x n st at >>= (λ flow. then_run flow (λ s. run_block (before xs rest) n s (at + sta_tokens x)))) ≡ run_block rest n mid to)
    by next PastBound e h = absurd (cc)
    by next (UndefinedAt k) e h = absurd (cc)
    by next (Completes (Went s)) e h =
        let r = next s h in
        (r.0, ap (λ o. o >>= (λ flow. then_run flow (λ s. run_block (before xs rest) n s (at + sta_tokens x)))) e ∙ r.1)
    by next (Completes (Broke s)) e h = absurd (cc)
    by next (Completes (Continued s)) e h = absurd (cc)
    by next (Completes (Returned k s)) e h = absurd (cc)

-- words that stand behind others have their numbers
pub declared : (xs ws rest : List CWord) → AreDeclared (length xs) ws ((xs ++ ws) ++ rest)
declared xs [] rest = tt
declared xs (w ∷ ws) rest =
    let more : (xs ++ (w ∷ ws)) ++ rest ≡ ((xs ++ (w ∷ [])) ++ ws) ++ rest = ap (λ l. l ++ rest) (sym (append_assoc xs (w ∷ []) ws)) in
    let one : length (xs ++ (w ∷ [])) ≡ suc (length xs) = omega (arith, length-append xs (w ∷ [])) in (
      ap (λ l. slice_get l (length xs)) (append_assoc xs (w ∷ ws) rest) ∙ get_behind xs (ws ++ rest) w,
      subst (λ k. AreDeclared k ws ((xs ++ (w ∷ ws)) ++ rest)) one (subst (AreDeclared (length (xs ++ (w ∷ []))) ws) (sym more) (declared (xs ++ (w ∷ [])) ws rest)),
    )

-- what a part reads stands
pub operand_stands : (st : State) (o : Operand) (z : ℤ) → Stands st o z → part.Stands st (read_operand o) z
operand_stands st o z h = record { in_range = cases_in_range o.num.signed o.num.word o.num.fraction z h.range; gives = (read_says o z st h).says }

-- a part, and then its value into the next variable
pub part_step : (em : Emitted) (t : NumericType) (m : Option Fimath) (p : Part) (os : List part.Operand) (result : List ℤ → ℤ) (zs : List ℤ) (z : ℤ) (st : State) (all rest : List CWord) → IsPart os (length em.words) t.signed result p → AllStand st os zs → result zs ≡ z → InRange t.signed t.word z → IsWithin t → map word_type st.words ≡ all → all ≡ ((em.words ++ p.words) ++ (word_for t.signed ∷ [])) ++ rest → Stepped em (with_part t m p em) t m st all z
part_step em t m p os result zs z st all rest is stand value range limits typed fits =
    let n : ℕ = length em.words in
    let fits_p : all ≡ (em.words ++ p.words) ++ ((word_for t.signed ∷ []) ++ rest) = fits ∙ append_assoc (em.words ++ p.words) (word_for t.signed ∷ []) rest in
    let have : AreDeclared n p.words (map word_type st.words) = subst (AreDeclared n p.words) (sym (typed ∙ fits_p)) (declared em.words p.words ((word_for t.signed ∷ []) ++ rest)) in
    let d = is.does st zs have stand in
    let runs : RunsTo p.before st d.after = record { does = λ r n at. front_runs p.before r st d.after n at (d.runs n at) } in
    let inputs : d.after.inputs ≡ st.inputs = ap (λ (s : State). s.inputs) d.same.rest in
    let outputs : d.after.outputs ≡ st.outputs = ap (λ (s : State). s.outputs) d.same.rest in
    let keeps : Keeps n st d.after = record { inputs = inputs; outputs = outputs; words = λ k l. d.same.below k l } in
    let mid : Emitted = record { sets = em.sets ++ p.before; words = em.words ++ p.words } in
    let says : Says p.value d.after (word_z t.signed z) = record { says = λ at. d.gives at ∙ ap (λ v. Completes (word_z t.signed v)) value } in
    let s = set_step mid t m p.value z d.after all rest says range limits (d.same.types ∙ typed) fits in
    let more : n ≤ length mid.words = omega (arith, length-append em.words p.words) in
    record {
      more = p.before ++ s.more;
      is = s.is ∙ append_assoc em.sets p.before s.more;
      after = s.after;
      does = runs_both p.before s.more st d.after s.after runs s.does;
      ty = s.ty;
      stands = s.stands;
      below = s.below;
      keeps = keeps_both n (length mid.words) st d.after s.after more keeps s.keeps;
      typed = s.typed;
      wider = omega (arith, more, s.wider);
    }

-- ---- operations

-- the part of an operation
pub operated_part : (w : Work) (m : Fimath) (t : NumericType) (a b : Operand) (fresh : ℕ) (p : Part) → Operates w m t a b fresh p → IsPart (read_operand a ∷ read_operand b ∷ []) fresh t.signed (on_two (element w m t a.num b.num)) p
unfolding Operates
operated_part work.Sum m t a b fresh p h = h
operated_part work.Difference m t a b fresh p h = h
operated_part work.Product m t a b fresh p h = h
operated_part work.Power m t a b fresh p h = absurd h
operated_part work.Division m t a b fresh p h = absurd h
operated_part work.Later m t a b fresh p h = absurd h

-- what is taken to a type is in its range
pub quantised_in : (r : Rounding) (o : Overflow) (t : NumericType) (z f : ℤ) → 1 ≤ t.word → InRange t.signed t.word (quantised r o t z f)
unfolding quantised
quantised_in r o t z f one = in_range_cases t.signed t.word t.fraction (quantised r o t z f) (fitted_inside o t _ one)

joined_in : (join : ℤ → ℤ → ℤ) (m : Fimath) (t : NumericType) (a b : Element) → 1 ≤ t.word → InRange t.signed t.word (joined join m t a b)
unfolding joined taken quantised
joined_in join m t a b one = by m.cast_before_sum
  where
    by : (c : Bool) → InRange t.signed t.word (if c then fitted m.overflow t (join (taken m t a.z a.num.fraction) (taken m t b.z b.num.fraction)) else taken m t (join (aligned (common a b) a) (aligned (common a b) b)) (common a b))
    by true = in_range_cases t.signed t.word t.fraction _ (fitted_inside m.overflow t _ one)
    by false = in_range_cases t.signed t.word t.fraction _ (fitted_inside m.overflow t _ one)

operated_in : (w : Work) (m : Fimath) (t : NumericType) (a b : Operand) (fresh : ℕ) (p : Part) (x y : ℤ) → Operates w m t a b fresh p → 1 ≤ t.word → InRange t.signed t.word (element w m t a.num b.num x y)
unfolding Operates multiplied taken quantised
operated_in work.Sum m t a b fresh p x y h one = joined_in _ m t (record { num = a.num; z = x }) (record { num = b.num; z = y }) one
operated_in work.Difference m t a b fresh p x y h one = joined_in _ m t (record { num = a.num; z = x }) (record { num = b.num; z = y }) one
operated_in work.Product m t a b fresh p x y h one = in_range_cases t.signed t.word t.fraction (element work.Product m t a.num b.num x y) (fitted_inside m.overflow t _ one)
operated_in work.Power m t a b fresh p x y h one = absurd h
operated_in work.Division m t a b fresh p x y h one = absurd h
operated_in work.Later m t a b fresh p x y h one = absurd h

turned_in : (turn : Turn) (m : Fimath) (a : NumericType) (x : ℤ) → 1 ≤ a.word → InRange a.signed a.word (turned_element turn m a x)
unfolding negated absolute
turned_in Negate m a x one = in_range_cases a.signed a.word a.fraction (turned_element Negate m a x) (fitted_inside m.overflow a _ one)
turned_in Remove m a x one = in_range_cases a.signed a.word a.fraction (turned_element Remove m a x) (fitted_inside m.overflow a _ one)

-- an operation on two operands
pub operated_step : (w : Work) (m : Fimath) (attached : Option Fimath) (t : NumericType) (a b : Operand) (em : Emitted) (low : Low) (x y : ℤ) (st : State) (all rest : List CWord) → work_made w m a.num b.num ≡ Is t → IsOperated w m attached t a b em low → Stands st a x → Stands st b y → map word_type st.words ≡ all → all ≡ low.emitted.words ++ rest → Stepped em low t attached st all (element w m t a.num b.num x y)
operated_step w m attached t a b em low x y st all rest e h ha hb typed fits =
    let within = operated_within w m a.num b.num t a b (length em.words) h.own h.operates e in
    let fits_made : all ≡ ((em.words ++ h.own.words) ++ (word_for t.signed ∷ [])) ++ rest = fits ∙ ap (λ l. l.emitted.words ++ rest) h.is in
    subst (λ l. Stepped em l t attached st all (element w m t a.num b.num x y)) (sym h.is)
    (part_step em t attached h.own (read_operand a ∷ read_operand b ∷ []) (on_two (element w m t a.num b.num)) (x ∷ y ∷ []) (element w m t a.num b.num x y) st all rest (operated_part w m t a b (length em.words) h.own h.operates)
    (operand_stands st a x ha, (operand_stands st b y hb, tt)) refl (operated_in w m t a b (length em.words) h.own x y h.operates within.one_bit) within typed fits_made)

-- a part with one operand
one_step : (em : Emitted) (t : NumericType) (m : Option Fimath) (p : Part) (a : Operand) (result : ℤ → ℤ) (low : Low) (x : ℤ) (st : State) (all rest : List CWord) → low ≡ with_part t m p em → IsPart (read_operand a ∷ []) (length em.words) t.signed (on_one result) p → InRange t.signed t.word (result x) → IsWithin t → Stands st a x → map word_type st.words ≡ all → all ≡ low.emitted.words ++ rest → Stepped em low t m st all (result x)
one_step em t m p a result low x st all rest is part range within ha typed fits =
    let fits_made : all ≡ ((em.words ++ p.words) ++ (word_for t.signed ∷ [])) ++ rest = fits ∙ ap (λ l. l.emitted.words ++ rest) is in
    subst (λ l. Stepped em l t m st all (result x)) (sym is)
    (part_step em t m p (read_operand a ∷ []) (on_one result) (x ∷ []) (result x) st all rest part (operand_stands st a x ha, tt) refl range within typed fits_made)

-- an operation with one operand
pub turned_step : (turn : Turn) (attached : Option Fimath) (a : Operand) (em : Emitted) (low : Low) (x : ℤ) (st : State) (all rest : List CWord) → IsTurned turn attached a em low → Stands st a x → map word_type st.words ≡ all → all ≡ low.emitted.words ++ rest → Stepped em low a.num attached st all (turned_element turn (math_of attached) a.num x)
unfolding Turns
turned_step Negate attached a em low x st all rest h ha typed fits =
    one_step em a.num attached h.own a (turned_element Negate (math_of attached) a.num) low x st all rest h.is h.turns (turned_in Negate (math_of attached) a.num x ha.limits.one_bit) ha.limits ha typed fits
turned_step Remove attached a em low x st all rest h ha typed fits =
    one_step em a.num attached h.own a (turned_element Remove (math_of attached) a.num) low x st all rest h.is h.turns (turned_in Remove (math_of attached) a.num x ha.limits.one_bit) ha.limits ha typed fits

-- a fi in another type
pub taken_step : (t : NumericType) (m : Option Fimath) (a : Operand) (em : Emitted) (low : Low) (x : ℤ) (st : State) (all rest : List CWord) → IsWithin t → IsTaken t m a em low → Stands st a x → map word_type st.words ≡ all → all ≡ low.emitted.words ++ rest → Stepped em low t m st all (taken_in t m x a.num.fraction)
taken_step t m a em low x st all rest within h ha typed fits =
    one_step em t m h.own a (λ z. taken_in t m z a.num.fraction) low x st all rest h.is h.quantises (quantised_in (math_of m).rounding (math_of m).overflow t x a.num.fraction within.one_bit) within ha typed fits
