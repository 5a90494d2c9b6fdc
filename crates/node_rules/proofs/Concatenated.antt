-- `bitconcat` goes by its rule.
use Rattle.std.proofs.Common.{◌≡◌, refl, sym, ap, ◌∙◌, ℕ, ◌+◌, Bool, true, false, List, [], ◌∷◌, map, arith}
use Rattle.std.specs.Prelude.{ℤ, pos, ◌&&◌, nat_le, Option, Some, None}
use Rattle.std.proofs.lemmas.Bool.{leb-true, le-leb}
use Rattle.fic_base.specs.declared.code.Code.{Code}
use Rattle.fic_base.specs.declared.code.Code.TheVariants as code
use Rattle.num_type.specs.Types.{NumericType}
use Rattle.fi_math.specs.declared.fimath.Fimath.{Fimath}
use Rattle.fi_ops.specs.Bits.{word_type}
use Rattle.fi_rules.specs.Checked.{Itself, Whole}
use Rattle.fi_rules.specs.Options.{and_then, ◌|>◌, where_so}
use Rattle.fi_rules.specs.Value.{Shape, Val, Fi, ComplexFi, Logical, Number, ComplexNumber, Words, MathObject, TypeObject}
use Rattle.fi_values.specs.Bits.{concatenated_pair, concatenated_all}
use Rattle.fi_values.specs.Shapes.{common}
use Rattle.node_rules.specs.Concatenated.{is_real_fi, all_real, all_fit, word_length, words_added, concatenated_met, concatenated_worked, concatenated_ruled, type_in, put_below, all_put_below, concatenated_value}
use Rattle.node_rules.specs.Pairs.{fits}
use Rattle.node_rules.specs.Parts.{parts_in}
use Rattle.node_rules.specs.Ruled.{Ruled, Why, Shows, bind, ◌>>=◌, tested, fine}
use Rattle.node_rules.specs.Types.{NodeTy, FiNode, ty_of, shape_of}
use Rattle.node_rules.proofs.Binds.{then_same, then_then, then_none, missing, fine_then, fine_needed}
use Rattle.node_rules.proofs.Goes.{Goes, goes, by, goes_then}
use Rattle.node_rules.proofs.Outcomes.{fine_none, fine_stops}
use Rattle.node_rules.proofs.Ranges.{nothing}

-- ---- one pair

-- no pair has another value than a real fi
no_pair : (v w : Val) → is_real_fi (ty_of w) ≡ false → concatenated_pair v w ≡ None
unfolding concatenated_pair is_real_fi ty_of
no_pair (Fi t m s xs) (Fi u n r ys) h = absurd (cc)
no_pair v w h = refl

no_first : (v w : Val) → is_real_fi (ty_of v) ≡ false → concatenated_pair v w ≡ None
unfolding concatenated_pair is_real_fi ty_of
no_first (Fi t m s xs) w h = absurd (cc)
no_first v w h = refl

module _ (t : NumericType) (m : Option Fimath) (s : Shape) (xs : List ℤ) (u : NumericType) (n : Option Fimath) (r : Shape) (ys : List ℤ) where
  -- two words within the limit
  put_on : (ws : List Val) → nat_le (t.word + u.word) 64 ≡ true → concatenated_all (Fi t m s xs) (Fi u n r ys ∷ ws) ≡ (common s r |> (λ q. concatenated_all (Fi (word_type (t.word + u.word)) None q (put_below t xs u ys)) ws))
  unfolding concatenated_pair and_then where_so
  put_on ws e = rw e (then_then (common s r) (λ q. Some (Fi (word_type (t.word + u.word)) None q (put_below t xs u ys))) (λ v. concatenated_all v ws))

  -- and where all that it may be goes on to nothing
  put_on_nothing : (ws : List Val) → ((q : Shape) → concatenated_all (Fi (word_type (t.word + u.word)) None q (put_below t xs u ys)) ws ≡ None) → concatenated_all (Fi t m s xs) (Fi u n r ys ∷ ws) ≡ None
  unfolding concatenated_pair and_then where_so
  put_on_nothing ws h = of (nat_le (t.word + u.word) 64) refl
    where
      of : (b : Bool) → nat_le (t.word + u.word) 64 ≡ b → concatenated_all (Fi t m s xs) (Fi u n r ys ∷ ws) ≡ None
      of true e = put_on ws e ∙ then_none (common s r) (λ q _. h q)
      of false e = rw e refl

-- ---- all pairs

-- the bits so far are at most all of them
words_so_far : (n : ℕ) (ts : List NodeTy) → nat_le (words_added n ts) 64 ≡ true → nat_le n 64 ≡ true
words_so_far n [] h = h
words_so_far n (t ∷ ts) h = le-leb n 64 (omega (arith, leb-true (n + word_length t) 64 (words_so_far (n + word_length t) ts h)))

abbrev all_common : Shape → List NodeTy → Option Shape
all_common s [] = Some s
all_common s (t ∷ ts) = common s (shape_of t) |> (λ r. all_common r ts)

all_put : (n : ℕ) (s : Shape) (xs : List ℤ) (ws : List Val) → all_real (map ty_of ws) ≡ true → nat_le (words_added n (map ty_of ws)) 64 ≡ true
    → concatenated_all (Fi (word_type n) None s xs) ws ≡ (all_common s (map ty_of ws) |> (λ q. Some (Fi (word_type (words_added n (map ty_of ws))) None q (all_put_below (word_type n) xs ws))))
unfolding is_real_fi word_length type_in parts_in ty_of and_then
all_put n s xs [] h k = refl
all_put n s xs (Fi u m r ys ∷ ws) h k =
    put_on (word_type n) None s xs u m r ys ws (words_so_far (n + u.word) (map ty_of ws) k)
    ∙ then_same (common s r) (λ q _. all_put (n + u.word) q (put_below (word_type n) xs u ys) ws h k)
    ∙ sym (then_then (common s r) (λ q. all_common q (map ty_of ws)) (λ q. Some (Fi (word_type (words_added (n + u.word) (map ty_of ws))) None q (all_put_below (word_type (n + u.word)) (put_below (word_type n) xs u ys) ws))))
all_put n s xs (ComplexFi u m r ys zs ∷ ws) h k = absurd (cc)
all_put n s xs (Logical r bs ∷ ws) h k = absurd (cc)
all_put n s xs (Number r cs ∷ ws) h k = absurd (cc)
all_put n s xs (ComplexNumber r ys zs ∷ ws) h k = absurd (cc)
all_put n s xs (Words text ∷ ws) h k = absurd (cc)
all_put n s xs (MathObject m ∷ ws) h k = absurd (cc)
all_put n s xs (TypeObject u ∷ ws) h k = absurd (cc)

others : (v : Val) (ws : List Val) → all_real (map ty_of ws) ≡ false → concatenated_all v ws ≡ None
unfolding and_then
others v [] h = absurd (cc)
others v (w ∷ ws) h = of (is_real_fi (ty_of w)) refl (λ u k. others u ws k)
  where
    of : (b : Bool) → is_real_fi (ty_of w) ≡ b → ((u : Val) → all_real (map ty_of ws) ≡ false → concatenated_all u ws ≡ None) → concatenated_all v (w ∷ ws) ≡ None
    of true e next = let k : (is_real_fi (ty_of w) && all_real (map ty_of ws)) ≡ false = h in then_none (concatenated_pair v w) (λ u _. next u (rw e at k))
    of false e next = missing (λ u. concatenated_all u ws) (no_pair v w e)

too_wide : (t : NumericType) (m : Option Fimath) (s : Shape) (xs : List ℤ) (w : Val) (ws : List Val) → nat_le (words_added t.word (map ty_of (w ∷ ws))) 64 ≡ false → concatenated_all (Fi t m s xs) (w ∷ ws) ≡ None
unfolding concatenated_pair word_length ty_of and_then where_so
too_wide t m s xs (Fi u n r ys) [] h = let e : nat_le (t.word + u.word) 64 ≡ false = h in rw e refl
too_wide t m s xs (Fi u n r ys) (x ∷ ws) h = put_on_nothing t m s xs u n r ys (x ∷ ws) (λ q. too_wide (word_type (t.word + u.word)) None q (put_below t xs u ys) x ws h)
too_wide t m s xs (ComplexFi u n r ys zs) ws h = refl
too_wide t m s xs (Logical r bs) ws h = refl
too_wide t m s xs (Number r cs) ws h = refl
too_wide t m s xs (ComplexNumber r ys zs) ws h = refl
too_wide t m s xs (Words text) ws h = refl
too_wide t m s xs (MathObject n) ws h = refl
too_wide t m s xs (TypeObject u) ws h = refl

-- ---- the rule

fine_all_fit : (s : Shape) (ts : List NodeTy) → fine (all_fit s ts) ≡ all_common s ts
unfolding fine
fine_all_fit s [] = refl
fine_all_fit s (t ∷ ts) = fine_then _ (fits s (shape_of t)) (common s (shape_of t)) (fine_needed _ _ _) (λ r _. fine_all_fit r ts)

module _ (k : Code) (why : Why) where
  -- a last test that holds
  goes_tested : (val : NodeTy → Val) (b : Bool) (t : NodeTy) (v : Val) → b ≡ true → v ≡ val t → ty_of (val t) ≡ t → Goes val (Some v) (tested k why b t)
  unfolding tested
  goes_tested val true t v h e f = by val (ap Some e) (goes t f)
  goes_tested val false t v h e f = absurd (cc)

  -- a first one that holds
  goes_met : {A B : Type 0} {o : Option Val} (val : NodeTy → Val) (b : Bool) (x : A) (f : A → Ruled B) (next : B → Ruled NodeTy) → b ≡ true → Goes val o (f x >>= next) → Goes val o ((tested k why b x >>= f) >>= next)
  unfolding bind tested
  goes_met val true x f next h g = g
  goes_met val false x f next h g = absurd (cc)

  -- one that doesn't
  fine_false : {A : Type 0} (b : Bool) (x : A) → b ≡ false → fine (tested k why b x) ≡ None
  unfolding fine tested
  fine_false true x h = absurd (cc)
  fine_false false x h = refl

-- ---- the law

nothing_made : (v w : Val) (ws : List Val) → all_real (ty_of v ∷ map ty_of (w ∷ ws)) ≡ false → concatenated_all v (w ∷ ws) ≡ None
nothing_made v w ws h = of (is_real_fi (ty_of v)) refl
  where
    of : (b : Bool) → is_real_fi (ty_of v) ≡ b → concatenated_all v (w ∷ ws) ≡ None
    of true e = let k : (is_real_fi (ty_of v) && all_real (map ty_of (w ∷ ws))) ≡ false = h in others v (w ∷ ws) (rw e at k)
    of false e = missing (λ u. concatenated_all u ws) (no_first v w e)

unreal_law : (v w : Val) (ws : List Val) → all_real (ty_of v ∷ map ty_of (w ∷ ws)) ≡ false → Goes (λ t. concatenated_value t v (w ∷ ws)) (concatenated_all v (w ∷ ws)) (concatenated_ruled (ty_of v) (map ty_of (w ∷ ws)))
unreal_law v w ws h =
    by _ (nothing_made v w ws h)
    (nothing _ (concatenated_ruled (ty_of v) (map ty_of (w ∷ ws)))
    (fine_stops (concatenated_met (ty_of v) (map ty_of (w ∷ ws))) _ (fine_stops _ _ (fine_false code.BadArgument (Shows Itself) (all_real (ty_of v ∷ map ty_of (w ∷ ws))) (shape_of (ty_of v)) h))))

real_law : (v w : Val) (ws : List Val) → all_real (ty_of v ∷ map ty_of (w ∷ ws)) ≡ true → Goes (λ t. concatenated_value t v (w ∷ ws)) (concatenated_all v (w ∷ ws)) (concatenated_ruled (ty_of v) (map ty_of (w ∷ ws)))
unfolding is_real_fi word_length concatenated_value type_in parts_in ty_of
real_law (Fi t m s xs) (Fi u n r ys) ws h = of (nat_le (words_added (t.word + u.word) (map ty_of ws)) 64) refl
  where
    of : (b : Bool) → nat_le (words_added (t.word + u.word) (map ty_of ws)) 64 ≡ b → Goes (λ c. concatenated_value c (Fi t m s xs) (Fi u n r ys ∷ ws)) (concatenated_all (Fi t m s xs) (Fi u n r ys ∷ ws)) (concatenated_ruled (FiNode t m false s) (FiNode u n false r ∷ map ty_of ws))
    of true e =
        let total : ℕ = words_added (t.word + u.word) (map ty_of ws) in
        let all : List ℤ = all_put_below (word_type (t.word + u.word)) (put_below t xs u ys) ws in
        by _ (put_on t m s xs u n r ys ws (words_so_far (t.word + u.word) (map ty_of ws) e)
        ∙ then_same (common s r) (λ q _. all_put (t.word + u.word) q (put_below t xs u ys) ws h e)
        ∙ sym (then_then (common s r) (λ q. all_common q (map ty_of ws)) (λ q. Some (Fi (word_type total) None q all))))
        (goes_met code.BadArgument (Shows Itself) _ (all_real (FiNode t m false s ∷ FiNode u n false r ∷ map ty_of ws)) s (λ s. all_fit s (FiNode u n false r ∷ map ty_of ws)) (concatenated_worked (FiNode t m false s) (FiNode u n false r ∷ map ty_of ws)) h
        (goes_then _ _ (all_fit s (FiNode u n false r ∷ map ty_of ws)) (all_common s (FiNode u n false r ∷ map ty_of ws)) (fine_all_fit s (FiNode u n false r ∷ map ty_of ws)) (λ q _.
        goes_tested code.TooWide (Shows (Whole (pos total))) _ (nat_le total 64) (FiNode (word_type total) None false q) (Fi (word_type total) None q all) e refl refl)))
    of false e =
        let total : ℕ = words_added (t.word + u.word) (map ty_of ws) in
        by _ (too_wide t m s xs (Fi u n r ys) ws e)
        (nothing _ (concatenated_ruled (FiNode t m false s) (FiNode u n false r ∷ map ty_of ws))
        (fine_none (concatenated_met (FiNode t m false s) (FiNode u n false r ∷ map ty_of ws)) _ (λ q. fine_false code.TooWide (Shows (Whole (pos total))) (nat_le total 64) (FiNode (word_type total) None false q) e)))
real_law v w ws h = absurd (cc)

pub concatenated_law : (v w : Val) (ws : List Val) → Goes (λ t. concatenated_value t v (w ∷ ws)) (concatenated_all v (w ∷ ws)) (concatenated_ruled (ty_of v) (map ty_of (w ∷ ws)))
concatenated_law v w ws = of (all_real (ty_of v ∷ map ty_of (w ∷ ws))) refl
  where
    of : (b : Bool) → all_real (ty_of v ∷ map ty_of (w ∷ ws)) ≡ b → Goes (λ t. concatenated_value t v (w ∷ ws)) (concatenated_all v (w ∷ ws)) (concatenated_ruled (ty_of v) (map ty_of (w ∷ ws)))
    of true h = real_law v w ws h
    of false h = unreal_law v w ws h
