-- What functions give, by the number of their arguments.
use Rattle.std.proofs.Common.{◌≡◌, ◌<◌, ◌≤◌, ◌+◌, ◌-◌, ℕ, zero, suc, List, [], ◌∷◌, length, get_or, map, Option, Some, None, Bool, false, refl, ap, sym, subst, ◌∙◌, arith, ⊎_elim}
use Rattle.std.specs.Prelude.{ℤ, ◌&&◌, nat_le, nat_lt, option_map}
use Rattle.std.specs.Global.{Vec}
use Rattle.std.proofs.lemmas.Bool.{and_left, and_right, cases_lt, lt-leb}
use Rattle.std.proofs.lemmas.Option.{none-some, same_Some}
use Rattle.num_type.specs.View.{type_of}
use Rattle.fi_ops.specs.Elements.{Element}
use Rattle.fi_ops.specs.Bits.{sliced, word_type}
use Rattle.fi_rules.specs.Options.{and_then, where_so, ◌|>◌}
use Rattle.fi_rules.specs.Value.{Shape, Val, Fi, ComplexFi}
use Rattle.fi_values.specs.Bits.{bits_between, each, one_typed, shifted, word_of}
use Rattle.fi_values.specs.Numbers.{whole_value}
use Rattle.fi_values.specs.Queries.{array_shape, extent_along, extent_of}
use Rattle.fi_values.specs.Sums as sums
use Rattle.fi_values.specs.Sums.{summed_value}
use Rattle.fi_values.specs.Transposes.{conjugate}
use Rattle.fi_meaning.specs.Functions.{along, conjugate_of, given, natural, shape_of_fi}
use Rattle.eval_value.specs.View.{fi_view, shape_view, value_view}
use Rattle.eval_value.specs.declared.fi_value.FiValue.{FiValue}
use Rattle.eval_value.specs.declared.value.Value.{Value}
use Rattle.eval_value.specs.declared.value.Value.TheVariants as value
use Rattle.eval_call.specs.View.{IsCounted, capped, function_view}
use Rattle.eval_call.specs.declared.function.Function as code
use Rattle.eval_call.specs.declared.function.Function.TheVariants as function
use Rattle.eval_bits.proofs.Classes.{number_cases}
use Rattle.eval_call.proofs.Capped.{capped_above, capped_below, below_limit}
use Rattle.eval_call.proofs.Follow.{some_none}
use Rattle.eval_call.proofs.Forms.{no_fi, real_is, complex_is}

-- ---- how many values

pub counted_so : (f : code.Function) → (f ≡ function.Zeros → ⊥) → (f ≡ function.Ones → ⊥) → (f ≡ function.BitConcat → ⊥) → IsCounted f
counted_so function.Zeros a b c = absurd (a refl)
counted_so function.Ones a b c = absurd (b refl)
counted_so function.BitConcat a b c = absurd (c refl)
counted_so f a b c = tt

pub with_none : (f : code.Function) (vs : List Value) (o : Option Val) → length vs ≡ 0 → o ≡ given (function_view f) [] → o ≡ given (function_view f) (map value_view vs)
with_none f [] o h e = e
with_none f (x ∷ vs) o h e = absurd (omega (arith, h))

pub with_one : (f : code.Function) (vs : List Value) (v : Value) (o : Option Val) → length vs ≡ 1 → v ≡ get_or vs 0 v → o ≡ given (function_view f) (value_view v ∷ []) → o ≡ given (function_view f) (map value_view vs)
with_one f (x ∷ []) v o h a e = e ∙ ap (λ (u : Value). given (function_view f) (value_view u ∷ [])) a
with_one f [] v o h a e = absurd (omega (arith, h))
with_one f (x ∷ y ∷ vs) v o h a e = absurd (omega (arith, h))

pub with_two : (f : code.Function) (vs : List Value) (v w : Value) (o : Option Val) → length vs ≡ 2 → v ≡ get_or vs 0 v → w ≡ get_or vs 1 w → o ≡ given (function_view f) (value_view v ∷ value_view w ∷ [])
    → o ≡ given (function_view f) (map value_view vs)
with_two f (x ∷ y ∷ []) v w o h a b e = e ∙ (λ i. given (function_view f) (value_view (a i) ∷ value_view (b i) ∷ []))
with_two f [] v w o h a b e = absurd (omega (arith, h))
with_two f (x ∷ []) v w o h a b e = absurd (omega (arith, h))
with_two f (x ∷ y ∷ z ∷ vs) v w o h a b e = absurd (omega (arith, h))

pub with_three : (f : code.Function) (vs : List Value) (v w u : Value) (o : Option Val) → length vs ≡ 3 → v ≡ get_or vs 0 v → w ≡ get_or vs 1 w → u ≡ get_or vs 2 u
    → o ≡ given (function_view f) (value_view v ∷ value_view w ∷ value_view u ∷ []) → o ≡ given (function_view f) (map value_view vs)
with_three f (x ∷ y ∷ z ∷ []) v w u o h a b c e = e ∙ (λ i. given (function_view f) (value_view (a i) ∷ value_view (b i) ∷ value_view (c i) ∷ []))
with_three f [] v w u o h a b c e = absurd (omega (arith, h))
with_three f (x ∷ []) v w u o h a b c e = absurd (omega (arith, h))
with_three f (x ∷ y ∷ []) v w u o h a b c e = absurd (omega (arith, h))
with_three f (x ∷ y ∷ z ∷ t ∷ vs) v w u o h a b c e = absurd (omega (arith, h))

four : (f : code.Function) (a b c d : Val) (vs : List Val) → IsCounted f → None ≡ given (function_view f) (a ∷ b ∷ c ∷ d ∷ vs)
unfolding given
four function.Zeros a b c d vs h = absurd h
four function.Ones a b c d vs h = absurd h
four function.BitConcat a b c d vs h = absurd h
four f a b c d vs h = refl

pub with_more : (f : code.Function) (vs : List Value) → IsCounted f → (length vs ≡ 0 → ⊥) → (length vs ≡ 1 → ⊥) → (length vs ≡ 2 → ⊥) → (length vs ≡ 3 → ⊥) → None ≡ given (function_view f) (map value_view vs)
with_more f [] k h g e d = absurd (h refl)
with_more f (x ∷ []) k h g e d = absurd (g refl)
with_more f (x ∷ y ∷ []) k h g e d = absurd (e refl)
with_more f (x ∷ y ∷ z ∷ []) k h g e d = absurd (d refl)
with_more f (x ∷ y ∷ z ∷ u ∷ vs) k h g e d = four f (value_view x) (value_view y) (value_view z) (value_view u) (map value_view vs) k

-- ---- functions that take another number of values

pub no_more_of_none : (f : code.Function) → IsCounted f → (f ≡ function.True → ⊥) → (f ≡ function.False → ⊥) → None ≡ given (function_view f) []
unfolding given
no_more_of_none function.Zeros k a b = absurd k
no_more_of_none function.Ones k a b = absurd k
no_more_of_none function.BitConcat k a b = absurd k
no_more_of_none function.True k a b = absurd (a refl)
no_more_of_none function.False k a b = absurd (b refl)
no_more_of_none f k a b = refl

pub no_more_of_one : (f : code.Function) (v : Val) → IsCounted f → (f ≡ function.Numel → ⊥) → (f ≡ function.Length → ⊥) → (f ≡ function.Real → ⊥) → (f ≡ function.Imag → ⊥) → (f ≡ function.Conj → ⊥)
    → (f ≡ function.Sum → ⊥) → (f ≡ function.BitCmp → ⊥) → None ≡ given (function_view f) (v ∷ [])
unfolding given
no_more_of_one function.Zeros v k a b c d e g h = absurd k
no_more_of_one function.Ones v k a b c d e g h = absurd k
no_more_of_one function.BitConcat v k a b c d e g h = absurd k
no_more_of_one function.Numel v k a b c d e g h = absurd (a refl)
no_more_of_one function.Length v k a b c d e g h = absurd (b refl)
no_more_of_one function.Real v k a b c d e g h = absurd (c refl)
no_more_of_one function.Imag v k a b c d e g h = absurd (d refl)
no_more_of_one function.Conj v k a b c d e g h = absurd (e refl)
no_more_of_one function.Sum v k a b c d e g h = absurd (g refl)
no_more_of_one function.BitCmp v k a b c d e g h = absurd (h refl)
no_more_of_one f v k a b c d e g h = refl

pub no_more_of_two : (f : code.Function) (v w : Val) → IsCounted f → (f ≡ function.Size → ⊥) → (f ≡ function.Complex → ⊥) → (f ≡ function.Sum → ⊥) → (f ≡ function.BitAnd → ⊥) → (f ≡ function.BitOr → ⊥)
    → (f ≡ function.BitXor → ⊥) → (f ≡ function.BitShiftLeft → ⊥) → (f ≡ function.BitShiftRight → ⊥) → (f ≡ function.BitShiftSign → ⊥) → None ≡ given (function_view f) (v ∷ w ∷ [])
unfolding given
no_more_of_two function.Zeros v w k a b c d e g h i j = absurd k
no_more_of_two function.Ones v w k a b c d e g h i j = absurd k
no_more_of_two function.BitConcat v w k a b c d e g h i j = absurd k
no_more_of_two function.Size v w k a b c d e g h i j = absurd (a refl)
no_more_of_two function.Complex v w k a b c d e g h i j = absurd (b refl)
no_more_of_two function.Sum v w k a b c d e g h i j = absurd (c refl)
no_more_of_two function.BitAnd v w k a b c d e g h i j = absurd (d refl)
no_more_of_two function.BitOr v w k a b c d e g h i j = absurd (e refl)
no_more_of_two function.BitXor v w k a b c d e g h i j = absurd (g refl)
no_more_of_two function.BitShiftLeft v w k a b c d e g h i j = absurd (h refl)
no_more_of_two function.BitShiftRight v w k a b c d e g h i j = absurd (i refl)
no_more_of_two function.BitShiftSign v w k a b c d e g h i j = absurd (j refl)
no_more_of_two f v w k a b c d e g h i j = refl

pub no_more_of_three : (f : code.Function) (v w u : Val) → IsCounted f → (f ≡ function.BitSlice → ⊥) → None ≡ given (function_view f) (v ∷ w ∷ u ∷ [])
unfolding given
no_more_of_three function.Zeros v w u k a = absurd k
no_more_of_three function.Ones v w u k a = absurd k
no_more_of_three function.BitConcat v w u k a = absurd k
no_more_of_three function.BitSlice v w u k a = absurd (a refl)
no_more_of_three f v w u k a = refl

-- ---- fis

behind_none : {A B : Type 0} (o : Option A) (g : A → Option B) → o ≡ None → None ≡ and_then o g
unfolding and_then
behind_none None g h = refl
behind_none (Some x) g h = absurd (some_none x h)

behind_some : {A B : Type 0} (o : Option A) (x : A) (g : A → Option B) → o ≡ Some x → g x ≡ and_then o g
unfolding and_then
behind_some o x g h = ap (λ p. and_then p g) (sym h)

fi_shape : (a : FiValue) → shape_of_fi (fi_view a) ≡ Some (shape_view a.shape)
fi_shape a = by a.im refl
  where
    by : (o : Option (Vec ℤ)) → a.im ≡ o → shape_of_fi (fi_view a) ≡ Some (shape_view a.shape)
    by None e = ap shape_of_fi (real_is a e)
    by (Some parts) e = ap shape_of_fi (complex_is a parts e)

pub no_conjugate : (v : Value) → ((a : FiValue) → v ≡ value.Fi a → ⊥) → None ≡ conjugate_of (value_view v)
unfolding conjugate_of
no_conjugate v h = behind_none (shape_of_fi (value_view v)) _ (no_fi v h)

pub fi_conjugate : (a : FiValue) (u : Val) → u ≡ conjugate (fi_view a) → Some u ≡ conjugate_of (fi_view a)
unfolding conjugate_of
fi_conjugate a u h = ap (λ v. Some v) h ∙ behind_some (shape_of_fi (fi_view a)) (shape_view a.shape) (λ s. Some (conjugate (fi_view a))) (fi_shape a)

pub no_sum : (v : Value) → ((a : FiValue) → v ≡ value.Fi a → ⊥) → None ≡ (shape_of_fi (value_view v) |> (λ s. summed_value (sums.first_along s) (value_view v)))
no_sum v h = behind_none (shape_of_fi (value_view v)) _ (no_fi v h)

sum_of_fi : (a : FiValue) (d : sums.Along) (o : Option Val) → d ≡ sums.first_along (shape_view a.shape) → o ≡ summed_value d (fi_view a)
    → o ≡ (shape_of_fi (fi_view a) |> (λ s. summed_value (sums.first_along s) (fi_view a)))
sum_of_fi a d o h e = e ∙ ap (λ d. summed_value d (fi_view a)) h ∙ behind_some (shape_of_fi (fi_view a)) (shape_view a.shape) (λ s. summed_value (sums.first_along s) (fi_view a)) (fi_shape a)

pub fi_sum : (v : Value) (a : FiValue) (d : sums.Along) (o : Option Val) → v ≡ value.Fi a → d ≡ sums.first_along (shape_view a.shape) → o ≡ summed_value d (value_view v)
    → o ≡ (shape_of_fi (value_view v) |> (λ s. summed_value (sums.first_along s) (value_view v)))
fi_sum v a d o i h =
    subst (λ (w : Value). o ≡ summed_value d (value_view w) → o ≡ (shape_of_fi (value_view w) |> (λ s. summed_value (sums.first_along s) (value_view w)))) (sym i) (sum_of_fi a d o h)

-- ---- stated numbers

pub none_stated : {A : Type 0} (w : Val) (g : ℕ → Option A) → None ≡ option_map capped (natural w) → None ≡ (natural w |> g)
none_stated w g h = by (natural w) h
  where
    by : (o : Option ℕ) → None ≡ option_map capped o → None ≡ (o |> g)
    by None e = behind_none None g refl
    by (Some n) e = absurd (none-some (capped n) e)

stated : {A : Type 0} (w : Val) (k : ℕ) (g : ℕ → Option A) → ((n : ℕ) → g (capped n) ≡ g n) → Some k ≡ option_map capped (natural w) → g k ≡ (natural w |> g)
stated w k g same h = by (natural w) h
  where
    by : (o : Option ℕ) → Some k ≡ option_map capped o → g k ≡ (o |> g)
    by None e = absurd (some_none k e)
    by (Some n) e = let s : k ≡ capped n = same_Some k (capped n) e in ap g s ∙ same n ∙ behind_some (Some n) n g refl

by_size : {A : Type 0} (g : ℕ → A) → ((n : ℕ) → 65536 < n → g 65536 ≡ g n) → (n : ℕ) → g (capped n) ≡ g n
by_size g above n = ⊎_elim (λ l. ap g (capped_above n l) ∙ above n l) (λ l. ap g (capped_below n l)) (cases_lt 65536 n)

far_extent : (n : ℕ) (s : Shape) → 2 < n → extent_along n s ≡ None
unfolding extent_along
far_extent zero s h = absurd (omega (arith, h))
far_extent (suc zero) s h = absurd (omega (arith, h))
far_extent (suc (suc zero)) s h = absurd (omega (arith, h))
far_extent (suc (suc (suc n))) s h = refl

far_of : (o : Option Shape) (n : ℕ) → 65536 < n → (o |> (λ s. extent_along 65536 s |> (λ k. Some (whole_value k)))) ≡ (o |> (λ s. extent_along n s |> (λ k. Some (whole_value k))))
unfolding and_then
far_of None n h = refl
far_of (Some s) n h = ap (λ p. p |> (λ k. Some (whole_value k))) (far_extent 65536 s (omega arith) ∙ sym (far_extent n s (omega (arith, h))))

extent_capped : (v : Val) (n : ℕ) → extent_of (capped n) v ≡ extent_of n v
extent_capped v = by_size (λ n. extent_of n v) (far_of (array_shape v))

pub stated_extent : (v w : Val) (k : ℕ) (o : Option Val) → Some k ≡ option_map capped (natural w) → o ≡ extent_of k v → o ≡ (natural w |> (λ d. extent_of d v))
stated_extent v w k o h e = e ∙ stated w k (λ d. extent_of d v) (extent_capped v) h

far_along : (n : ℕ) → 2 < n → along n ≡ None
unfolding along
far_along zero h = absurd (omega (arith, h))
far_along (suc zero) h = absurd (omega (arith, h))
far_along (suc (suc zero)) h = absurd (omega (arith, h))
far_along (suc (suc (suc n))) h = refl

along_capped : (n : ℕ) → along (capped n) ≡ along n
along_capped = by_size along (λ n l. far_along 65536 (omega arith) ∙ sym (far_along n (omega (arith, l))))

along_one : (k : ℕ) → k ≡ 1 → Some sums.Columns ≡ along k
unfolding along
along_one k h = rw h refl

along_two : (k : ℕ) → k ≡ 2 → Some sums.Rows ≡ along k
unfolding along
along_two k h = rw h refl

along_else : (k : ℕ) → (k ≡ 1 → ⊥) → (k ≡ 2 → ⊥) → None ≡ along k
unfolding along
along_else zero h g = refl
along_else (suc zero) h g = absurd (h refl)
along_else (suc (suc zero)) h g = absurd (g refl)
along_else (suc (suc (suc n))) h g = refl

pub columns_stated : (w : Val) (k : ℕ) → Some k ≡ option_map capped (natural w) → k ≡ 1 → Some sums.Columns ≡ (natural w |> along)
columns_stated w k h e = along_one k e ∙ stated w k along along_capped h

pub rows_stated : (w : Val) (k : ℕ) → Some k ≡ option_map capped (natural w) → k ≡ 2 → Some sums.Rows ≡ (natural w |> along)
rows_stated w k h e = along_two k e ∙ stated w k along along_capped h

pub none_along : (w : Val) (k : ℕ) → Some k ≡ option_map capped (natural w) → (k ≡ 1 → ⊥) → (k ≡ 2 → ⊥) → None ≡ (natural w |> along)
none_along w k h a b = along_else k a b ∙ stated w k along along_capped h

pub summed_none : (w v : Val) → None ≡ (natural w |> along) → None ≡ (natural w |> along |> (λ a. summed_value a v))
summed_none w v h = behind_none (natural w |> along) (λ a. summed_value a v) (sym h)

pub summed_some : (w v : Val) (d : sums.Along) (o : Option Val) → Some d ≡ (natural w |> along) → o ≡ summed_value d v → o ≡ (natural w |> along |> (λ a. summed_value a v))
summed_some w v d o h e = e ∙ behind_some (natural w |> along) d (λ a. summed_value a v) (sym h)

-- ---- bits

word_bound : (v : Value) (w : ℕ) → word_of (value_view v) ≡ Some w → w ≤ 64
unfolding word_of
word_bound (value.Fi a) w h = by a.im refl
  where
    bound : Some a.num.word ≡ Some w → w ≤ 64
    bound e = let s : a.num.word ≡ w = same_Some a.num.word w e in omega (arith, s, a.num.bits)

    by : (o : Option (Vec ℤ)) → a.im ≡ o → w ≤ 64
    by None e = bound (sym (ap word_of (real_is a e)) ∙ h)
    by (Some parts) e = bound (sym (ap word_of (complex_is a parts e)) ∙ h)
word_bound (value.Logical l) w h = absurd (none-some w h)
word_bound (value.Number n) w h = number_cases (λ u. word_of u ≡ Some w → w ≤ 64) n (λ s cs e. absurd (none-some w e)) (λ s xs ys e. absurd (none-some w e)) h
word_bound (value.Words text) w h = absurd (none-some w h)
word_bound (value.Math m) w h = absurd (none-some w h)
word_bound (value.Type t) w h = absurd (none-some w h)

shifted_capped : (f : ℕ → Element → ℤ) (v : Value) (n : ℕ) → shifted f (capped n) (value_view v) ≡ shifted f n (value_view v)
unfolding and_then
shifted_capped f v n = by (word_of (value_view v)) refl
  where
    by : (o : Option ℕ) → word_of (value_view v) ≡ o → (o |> (λ w. where_so (nat_lt (capped n) w) (capped n) |> (λ k. one_typed (f k) (value_view v)))) ≡ (o |> (λ w. where_so (nat_lt n w) n |> (λ k. one_typed (f k) (value_view v))))
    by None e = refl
    by (Some w) e = below_limit n w (λ k. one_typed (f k) (value_view v)) (word_bound v w e)

pub stated_shift : (f : ℕ → Element → ℤ) (v : Value) (w : Val) (k : ℕ) (o : Option Val) → Some k ≡ option_map capped (natural w) → o ≡ shifted f k (value_view v) → o ≡ (natural w |> (λ k. shifted f k (value_view v)))
stated_shift f v w k o h e = e ∙ stated w k (λ k. shifted f k (value_view v)) (shifted_capped f v) h

nothing : {A : Type 0} (b : Bool) (x : ℕ) (g : ℕ → Option A) → b ≡ false → (where_so b x |> g) ≡ None
unfolding and_then where_so
nothing b x g h = ap (λ b. where_so b x |> g) h

abbrev is_between : ℕ → ℕ → ℕ → Bool
is_between w l r = nat_le 1 r && (nat_le r l && nat_le l w)

far_left : (w l r : ℕ) → w ≤ 64 → 64 < l → is_between w l r ≡ false
far_left w l r h g = and_right (nat_le 1 r) (nat_le r l && nat_le l w) (and_right (nat_le r l) (nat_le l w) (lt-leb l w (omega (arith, h, g))))

far_right : (w l r : ℕ) → l < r → is_between w l r ≡ false
far_right w l r h = and_right (nat_le 1 r) (nat_le r l && nat_le l w) (and_left (nat_le r l) (nat_le l w) (lt-leb r l h))

above_bits : (k : ℕ) → 64 < k → 64 < capped k
above_bits k h = ⊎_elim (λ l. omega (arith, capped_above k l)) (λ l. omega (arith, capped_below k l, h)) (cases_lt 65536 k)

near_cut : {A : Type 0} (w l r : ℕ) (g : ℕ → ℕ → Option A) → l ≤ 64 → (where_so (is_between w (capped l) (capped r)) (capped l) |> (λ l. g l (capped r))) ≡ (where_so (is_between w l r) l |> (λ l. g l r))
near_cut w l r g k = ⊎_elim above below (cases_lt 65536 r)
  where
    same : capped l ≡ l
    same = capped_below l (omega (arith, k))

    above : 65536 < r → (where_so (is_between w (capped l) (capped r)) (capped l) |> (λ l. g l (capped r))) ≡ (where_so (is_between w l r) l |> (λ l. g l r))
    above m = nothing (is_between w (capped l) (capped r)) (capped l) (λ l. g l (capped r)) (far_right w (capped l) (capped r) (omega (arith, same, k, capped_above r m))) ∙ sym (nothing (is_between w l r) l (λ l. g l r) (far_right w l r (omega (arith, k, m))))

    below : r ≤ 65536 → (where_so (is_between w (capped l) (capped r)) (capped l) |> (λ l. g l (capped r))) ≡ (where_so (is_between w l r) l |> (λ l. g l r))
    below m = λ i. where_so (is_between w (same i) (capped_below r m i)) (same i) |> (λ l. g l (capped_below r m i))

cut : {A : Type 0} (w l r : ℕ) (g : ℕ → ℕ → Option A) → w ≤ 64 → (where_so (is_between w (capped l) (capped r)) (capped l) |> (λ l. g l (capped r))) ≡ (where_so (is_between w l r) l |> (λ l. g l r))
cut w l r g h = ⊎_elim far (near_cut w l r g) (cases_lt 64 l)
  where
    far : 64 < l → (where_so (is_between w (capped l) (capped r)) (capped l) |> (λ l. g l (capped r))) ≡ (where_so (is_between w l r) l |> (λ l. g l r))
    far k = nothing (is_between w (capped l) (capped r)) (capped l) (λ l. g l (capped r)) (far_left w (capped l) (capped r) h (above_bits l k)) ∙ sym (nothing (is_between w l r) l (λ l. g l r) (far_left w l r h k))

between_capped : (v : Value) (l r : ℕ) → bits_between (capped l) (capped r) (value_view v) ≡ bits_between l r (value_view v)
unfolding bits_between
between_capped (value.Fi a) l r = by a.im refl
  where
    by : (o : Option (Vec ℤ)) → a.im ≡ o → bits_between (capped l) (capped r) (fi_view a) ≡ bits_between l r (fi_view a)
    by None e =
        ap (bits_between (capped l) (capped r)) (real_is a e)
        ∙ cut a.num.word l r (λ l r. Some (Fi (word_type (l - r + 1)) None (shape_view a.shape) (each (type_of a.num) (λ e. (sliced l r e).z) a.re.items))) a.num.bits
        ∙ sym (ap (bits_between l r) (real_is a e))
    by (Some parts) e =
        ap (bits_between (capped l) (capped r)) (complex_is a parts e)
        ∙ cut a.num.word l r (λ l r. Some (ComplexFi (word_type (l - r + 1)) None (shape_view a.shape) (each (type_of a.num) (λ e. (sliced l r e).z) a.re.items) (each (type_of a.num) (λ e. (sliced l r e).z) parts.items))) a.num.bits
        ∙ sym (ap (bits_between l r) (complex_is a parts e))
between_capped (value.Logical b) l r = refl
between_capped (value.Number n) l r = number_cases (λ u. bits_between (capped l) (capped r) u ≡ bits_between l r u) n (λ s cs. refl) (λ s xs ys. refl)
between_capped (value.Words text) l r = refl
between_capped (value.Math m) l r = refl
between_capped (value.Type t) l r = refl

pub no_left : (v x y : Val) → None ≡ option_map capped (natural x) → None ≡ (natural x |> (λ l. natural y |> (λ r. bits_between l r v)))
no_left v x y h = none_stated x _ h

pub no_right : (v x y : Val) → None ≡ option_map capped (natural y) → None ≡ (natural x |> (λ l. natural y |> (λ r. bits_between l r v)))
unfolding and_then
no_right v x y h = by (natural x)
  where
    by : (o : Option ℕ) → None ≡ (o |> (λ l. natural y |> (λ r. bits_between l r v)))
    by None = refl
    by (Some l) = none_stated y (λ r. bits_between l r v) h

pub stated_slice : (v : Value) (x y : Val) (l r : ℕ) (o : Option Val) → Some l ≡ option_map capped (natural x) → Some r ≡ option_map capped (natural y) → o ≡ bits_between l r (value_view v)
    → o ≡ (natural x |> (λ l. natural y |> (λ r. bits_between l r (value_view v))))
unfolding and_then
stated_slice v x y l r o h g e = by (natural x) (natural y) h g
  where
    by : (a b : Option ℕ) → Some l ≡ option_map capped a → Some r ≡ option_map capped b → o ≡ (a |> (λ l. b |> (λ r. bits_between l r (value_view v))))
    by None b h g = absurd (some_none l h)
    by (Some m) None h g = absurd (some_none r g)
    by (Some m) (Some n) h g =
        let p : l ≡ capped m = same_Some l (capped m) h in
        let q : r ≡ capped n = same_Some r (capped n) g in
        e ∙ (λ i. bits_between (p i) (q i) (value_view v)) ∙ between_capped v m n
