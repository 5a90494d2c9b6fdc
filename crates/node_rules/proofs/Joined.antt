-- Brackets go by their rule.
use Rattle.std.proofs.Common.{◌≡◌, refl, sym, ap, ◌∙◌, subst, Bool, true, false, List, [], ◌∷◌, map}
use Rattle.std.specs.Prelude.{◌&&◌, nat_eq, Option, Some}
use Rattle.fic_base.specs.declared.code.Code.TheVariants as code
use Rattle.fi_rules.specs.Checked.{Itself}
use Rattle.fi_rules.specs.Options.{and_then, ◌|>◌, where_so}
use Rattle.fi_rules.specs.Value.{Shape, Val, Fi, ComplexFi, Logical, Number, ComplexNumber, Words, MathObject, TypeObject}
use Rattle.fi_values.specs.Brackets as arrays
use Rattle.fi_values.specs.Brackets.{Join, Beside, Above, lists, same_kind, shape_by}
use Rattle.fi_values.specs.Numbers.{nought_parts}
use Rattle.fi_values.specs.Shapes.{is_small}
use Rattle.node_rules.specs.Brackets.{kind_of, is_joined, alike, shared_extent, shape_with, all_meet_first, all_meet, rows_meet, imaginary_of, joined_imaginary, joined_ty, all_joined_ty, list_ty, row_types, has_elements, bracket_ruled, together, all_together, list_value, of_type, bracket_value}
use Rattle.node_rules.specs.Parts.{parts_in, truths_in}
use Rattle.node_rules.specs.Ruled.{Ruled, Fine, Missing, Shows, Misfit, bind, ◌>>=◌, tested, fine}
use Rattle.node_rules.specs.Types.{NodeTy, FiNode, LogicalNode, ty_of, shape_of, known}
use Rattle.node_rules.proofs.Binds.{fine_tested}
use Rattle.node_rules.proofs.BracketConditions.{joins, all_join, list_joins, rows_join, all_level, list_level, rows_level, is_kind, is_limited, whole_ty, bracket_fits, types_of_rows, filled_from, fits_where_joined}
use Rattle.node_rules.proofs.Goes.{Goes, goes, stops, by}
use Rattle.node_rules.proofs.Products.{shape_typed}

-- ---- results by a test

then_where : {A B : Type 0} (g : A → Option B) (o : Option A) (b : Bool) (x : A) (c : Bool) (y : B) → o ≡ where_so b x → g x ≡ where_so c y → (o |> g) ≡ where_so (b && c) y
unfolding and_then where_so
then_where g o true x c y e f = ap (λ q. q |> g) e ∙ f
then_where g o false x c y e f = ap (λ q. q |> g) e

some_where : {A B : Type 0} (f : A → B) (o : Option A) (b : Bool) (x : A) → o ≡ where_so b x → (o |> (λ y. Some (f y))) ≡ where_so b (f x)
unfolding and_then where_so
some_where f o true x e = ap (λ q. q |> (λ y. Some (f y))) e
some_where f o false x e = ap (λ q. q |> (λ y. Some (f y))) e

fine_where : {A B : Type 0} (f : A → Ruled B) (c : Ruled A) (b : Bool) (x : A) (d : Bool) (y : B) → fine c ≡ where_so b x → fine (f x) ≡ where_so d y → fine (c >>= f) ≡ where_so (b && d) y
unfolding fine bind where_so
fine_where f (Fine z) true x d y e g = let i : z ≡ x = cc in ap (λ z. fine (f z)) i ∙ g
fine_where f (Fine z) false x d y e g = absurd (cc)
fine_where f (Missing k why) true x d y e g = absurd (cc)
fine_where f (Missing k why) false x d y e g = refl

-- evaluation and a rule that come to something by the same test
goes_where : {o : Option Val} (val : NodeTy → Val) (c : Ruled NodeTy) (b : Bool) (v : Val) (t : NodeTy) → o ≡ where_so b v → fine c ≡ where_so b t → (b ≡ true → (v ≡ val t) × (ty_of (val t) ≡ t)) → Goes val o c
unfolding fine where_so
goes_where val (Fine u) true v t e f g =
    let i : t ≡ u = cc in
    let p = g refl in
    by val (e ∙ ap Some p.0) (subst (λ u. Goes val (Some (val t)) (Fine u)) i (goes t p.1))
goes_where val (Fine u) false v t e f g = absurd (cc)
goes_where val (Missing k why) true v t e f g = absurd (cc)
goes_where val (Missing k why) false v t e f g = by val e (stops k why)

-- ---- two values

small_where : (q : Shape) (f : Shape → Val) (b : Bool) → (where_so b q |> (λ r. where_so (is_small r) r) |> (λ r. Some (f r))) ≡ where_so (b && is_small q) (f q)
unfolding and_then where_so
small_where q f true = some_where f (where_so (is_small q) q) (is_small q) q refl
small_where q f false = refl

by_shapes : (j : Join) (s t : Shape) (f : Shape → Val) → (shape_by j s t |> (λ r. Some (f r))) ≡ where_so (nat_eq (shared_extent j s) (shared_extent j t) && is_small (shape_with j s t)) (f (shape_with j s t))
by_shapes Beside s t f = small_where (shape_with Beside s t) f (nat_eq s.rows t.rows)
by_shapes Above s t f = small_where (shape_with Above s t) f (nat_eq s.columns t.columns)

joined_is : (j : Join) (v w : Val) → arrays.joined j v w ≡ where_so (joins j (ty_of v) (ty_of w)) (together j v w)
unfolding arrays.joined kind_of alike together joined_ty joined_imaginary imaginary_of parts_in truths_in ty_of known where_so
joined_is j (Fi t m s xs) (Fi u n r ys) =
    then_where (λ s. shape_by j s r |> (λ q. Some (Fi t m q (lists j s r xs ys)))) (where_so (same_kind t m u n) s) (same_kind t m u n) s _ _ refl
    (by_shapes j s r (λ q. Fi t m q (lists j s r xs ys)))
joined_is j (ComplexFi t m s xs ys) (ComplexFi u n r us vs) =
    then_where (λ s. shape_by j s r |> (λ q. Some (ComplexFi t m q (lists j s r xs us) (lists j s r ys vs)))) (where_so (same_kind t m u n) s) (same_kind t m u n) s _ _ refl
    (by_shapes j s r (λ q. ComplexFi t m q (lists j s r xs us) (lists j s r ys vs)))
joined_is j (Logical s bs) (Logical t cs) = by_shapes j s t (λ r. Logical r (lists j s t bs cs))
joined_is j (Number s xs) (Number t us) = by_shapes j s t (λ r. Number r (lists j s t xs us))
joined_is j (Number s xs) (ComplexNumber t us vs) = by_shapes j s t (λ r. ComplexNumber r (lists j s t xs us) (lists j s t (nought_parts xs) vs))
joined_is j (ComplexNumber s xs ys) (Number t us) = by_shapes j s t (λ r. ComplexNumber r (lists j s t xs us) (lists j s t ys (nought_parts us)))
joined_is j (ComplexNumber s xs ys) (ComplexNumber t us vs) = by_shapes j s t (λ r. ComplexNumber r (lists j s t xs us) (lists j s t ys vs))
joined_is j v w = refl

together_typed : (j : Join) (v w : Val) → ty_of (together j v w) ≡ joined_ty j (ty_of v) (ty_of w)
unfolding together joined_ty joined_imaginary imaginary_of ty_of known
together_typed j (Fi t m s xs) w = ap (λ r. FiNode t m false (shape_with j s r)) (sym (shape_typed w))
together_typed j (ComplexFi t m s xs ys) w = ap (λ r. FiNode t m true (shape_with j s r)) (sym (shape_typed w))
together_typed j (Logical s bs) w = ap (λ r. LogicalNode (shape_with j s r)) (sym (shape_typed w))
together_typed j (Number s xs) (Number t us) = refl
together_typed j (Number s xs) (ComplexNumber t us vs) = refl
together_typed j (ComplexNumber s xs ys) (Number t us) = refl
together_typed j (ComplexNumber s xs ys) (ComplexNumber t us vs) = refl
together_typed j v w = refl

-- ---- lists of values

all_typed : (j : Join) (v : Val) (ws : List Val) → ty_of (all_together j v ws) ≡ all_joined_ty j (ty_of v) (map ty_of ws)
all_typed j v [] = refl
all_typed j v (w ∷ ws) = all_typed j (together j v w) ws ∙ ap (λ t. all_joined_ty j t (map ty_of ws)) (together_typed j v w)

all_is : (j : Join) (v : Val) (ws : List Val) → arrays.all_joined j v ws ≡ where_so (all_join j (ty_of v) (map ty_of ws)) (all_together j v ws)
unfolding where_so
all_is j v [] = refl
all_is j v (w ∷ ws) =
    then_where (λ u. arrays.all_joined j u ws) (arrays.joined j v w) (joins j (ty_of v) (ty_of w)) (together j v w) (all_join j (joined_ty j (ty_of v) (ty_of w)) (map ty_of ws)) (all_together j (together j v w) ws) (joined_is j v w)
    (all_is j (together j v w) ws ∙ ap (λ t. where_so (all_join j t (map ty_of ws)) (all_together j (together j v w) ws)) (together_typed j v w))

element_is : (v : Val) → arrays.is_element v ≡ where_so (is_joined (kind_of (ty_of v))) v
unfolding arrays.is_element is_joined kind_of ty_of where_so
element_is (Fi t m s xs) = refl
element_is (ComplexFi t m s xs ys) = refl
element_is (Logical s bs) = refl
element_is (Number s cs) = refl
element_is (ComplexNumber s xs ys) = refl
element_is (Words text) = refl
element_is (MathObject m) = refl
element_is (TypeObject t) = refl

list_typed : (j : Join) (vs : List Val) → ty_of (list_value j vs) ≡ list_ty j (map ty_of vs)
unfolding ty_of
list_typed j [] = refl
list_typed j (v ∷ vs) = all_typed j v vs

list_is : (j : Join) (vs : List Val) → arrays.joined_by j vs ≡ where_so (list_joins j (map ty_of vs)) (list_value j vs)
unfolding where_so
list_is j [] = refl
list_is j (v ∷ vs) =
    then_where (λ v. arrays.all_joined j v vs) (arrays.is_element v) (is_joined (kind_of (ty_of v))) v (all_join j (ty_of v) (map ty_of vs)) (all_together j v vs) (element_is v) (all_is j v vs)

-- ---- rows

rows_typed : (rows : List (List Val)) → map ty_of (map (list_value Beside) rows) ≡ map (list_ty Beside) (map (map ty_of) rows)
rows_typed [] = refl
rows_typed (r ∷ rs) =
    ap (λ t. t ∷ map ty_of (map (list_value Beside) rs)) (list_typed Beside r) ∙ ap (λ ts. list_ty Beside (map ty_of r) ∷ ts) (rows_typed rs)

rows_are : (rows : List (List Val)) → arrays.row_values rows ≡ where_so (rows_join (map (map ty_of) rows)) (map (list_value Beside) rows)
unfolding where_so
rows_are [] = refl
rows_are (r ∷ rs) =
    then_where (λ v. arrays.row_values rs |> (λ vs. Some (v ∷ vs))) (arrays.joined_by Beside r) (list_joins Beside (map ty_of r)) (list_value Beside r) (rows_join (map (map ty_of) rs)) (list_value Beside r ∷ map (list_value Beside) rs) (list_is Beside r)
    (some_where (λ vs. list_value Beside r ∷ vs) (arrays.row_values rs) (rows_join (map (map ty_of) rs)) (map (list_value Beside) rs) (rows_are rs))

abbrev whole_value : List (List Val) → Val
whole_value rows = list_value Above (map (list_value Beside) rows)

evaluated : (rows : List (List Val)) → arrays.bracket rows ≡ where_so (bracket_fits (map (map ty_of) rows)) (whole_value rows)
evaluated rows =
    then_where (λ vs. arrays.joined_by Above vs) (arrays.row_values rows) (rows_join (map (map ty_of) rows)) (map (list_value Beside) rows) (list_joins Above (map (list_ty Beside) (map (map ty_of) rows))) (whole_value rows) (rows_are rows)
    (list_is Above (map (list_value Beside) rows) ∙ ap (λ ts. where_so (list_joins Above ts) (whole_value rows)) (rows_typed rows))
    ∙ ap (λ b. where_so b (whole_value rows)) (fits_where_joined (map (map ty_of) rows))

whole_typed : (rows : List (List Val)) → bracket_fits (map (map ty_of) rows) ≡ true → ty_of (whole_value rows) ≡ whole_ty (map (map ty_of) rows)
whole_typed rows h =
    list_typed Above (map (list_value Beside) rows)
    ∙ ap (λ ts. list_ty Above ts) (rows_typed rows ∙ types_of_rows (map (map ty_of) rows) (filled_from (map (map ty_of) rows) h))

-- ---- the rule

fine_meet_first : {A : Type 0} (j : Join) (s : Shape) (ts : List NodeTy) (x : A) → fine (all_meet_first j s ts x) ≡ where_so (all_level j (shared_extent j s) ts) x
unfolding fine where_so
fine_meet_first j s [] x = refl
fine_meet_first j s (t ∷ ts) x =
    fine_where (λ x. all_meet_first j s ts x) (tested code.SizeMismatch (Misfit s (shape_of t)) (nat_eq (shared_extent j s) (shared_extent j (shape_of t))) x) (nat_eq (shared_extent j s) (shared_extent j (shape_of t))) x (all_level j (shared_extent j s) ts) x (fine_tested _ _ _ _) (fine_meet_first j s ts x)

fine_meet : {A : Type 0} (j : Join) (ts : List NodeTy) (x : A) → fine (all_meet j ts x) ≡ where_so (list_level j ts) x
unfolding fine where_so
fine_meet j [] x = refl
fine_meet j (t ∷ ts) x = fine_meet_first j (shape_of t) ts x

fine_rows : {A : Type 0} (rows : List (List NodeTy)) (x : A) → fine (rows_meet rows x) ≡ where_so (rows_level rows) x
unfolding fine where_so
fine_rows [] x = refl
fine_rows (r ∷ rs) x = fine_where (λ x. rows_meet rs x) (all_meet Beside r x) (list_level Beside r) x (rows_level rs) x (fine_meet Beside r x) (fine_rows rs x)

ruled_by_tests : (rows : List (List NodeTy)) → fine (bracket_ruled rows) ≡ where_so (bracket_fits rows) (whole_ty rows)
ruled_by_tests rows =
    fine_where _ (tested code.BadArgument (Shows Itself) (is_kind rows) (row_types rows)) (is_kind rows) (row_types rows) (rows_level rows && (list_level Above (row_types rows) && (has_elements rows && is_limited rows))) (whole_ty rows) (fine_tested _ _ _ _)
    (fine_where _ (rows_meet rows (row_types rows)) (rows_level rows) (row_types rows) (list_level Above (row_types rows) && (has_elements rows && is_limited rows)) (whole_ty rows) (fine_rows rows (row_types rows))
    (fine_where _ (all_meet Above (row_types rows) (row_types rows)) (list_level Above (row_types rows)) (row_types rows) (has_elements rows && is_limited rows) (whole_ty rows) (fine_meet Above (row_types rows) (row_types rows))
    (fine_where _ (tested code.DynamicSize (Shows Itself) (has_elements rows) (whole_ty rows)) (has_elements rows) (whole_ty rows) (is_limited rows) (whole_ty rows) (fine_tested _ _ _ _) (fine_tested _ _ _ _))))

-- ---- the law

-- of its own type a value is itself
own_type : (v : Val) → of_type (ty_of v) v ≡ v
unfolding of_type ty_of known
own_type (Fi t m s xs) = refl
own_type (ComplexFi t m s xs ys) = refl
own_type (Logical s bs) = refl
own_type (Number s cs) = refl
own_type (ComplexNumber s xs ys) = refl
own_type (Words text) = refl
own_type (MathObject m) = refl
own_type (TypeObject t) = refl

value_is : (v : Val) (t : NodeTy) → ty_of v ≡ t → (v ≡ of_type t v) × (ty_of (of_type t v) ≡ t)
value_is v t e =
    let same : of_type t v ≡ v = ap (λ u. of_type u v) (sym e) ∙ own_type v in
    (sym same, ap ty_of same ∙ e)

pub bracket_law : (rows : List (List Val)) → Goes (λ t. bracket_value t rows) (arrays.bracket rows) (bracket_ruled (map (map ty_of) rows))
bracket_law rows =
    goes_where (λ t. bracket_value t rows) (bracket_ruled (map (map ty_of) rows)) (bracket_fits (map (map ty_of) rows)) (whole_value rows) (whole_ty (map (map ty_of) rows)) (evaluated rows) (ruled_by_tests (map (map ty_of) rows))
    (λ h. value_is (whole_value rows) (whole_ty (map (map ty_of) rows)) (whole_typed rows h))
