-- Conditions of brackets: joins go through one by one just where the conditions of the rule hold.
use Rattle.std.proofs.Common.{◌≡◌, refl, sym, ap, ◌∙◌, subst, ℕ, ◌+◌, ◌*◌, Bool, true, false, List, [], ◌∷◌, map, arith}
use Rattle.std.specs.Prelude.{◌&&◌, ◌||◌, nat_eq}
use Rattle.std.proofs.lemmas.Bool.{and_parts, and_from, or_right, leb-true, le-leb, eqb-true}
use Rattle.std.proofs.Math.Nat.{mul_comm, mul-add}
use Rattle.fi_rules.specs.Value.{Shape}
use Rattle.fi_values.specs.Brackets.{Join, Beside, Above}
use Rattle.fi_values.specs.Shapes.{is_small}
use Rattle.node_rules.specs.Brackets.{kind_of, is_joined, alike, all_alike, one_kind, rows_alike, shared_extent, shape_with, joined_ty, all_joined_ty, list_ty, row_types, all_filled, has_elements, is_one, is_single}
use Rattle.node_rules.specs.Types.{NodeTy, FiNode, LogicalNode, NumberNode, IndexNode, TextNode, MathNode, TypeNode, shape_of}

-- ---- joins one by one

abbrev pub joins : Join → NodeTy → NodeTy → Bool
joins j t u =
    alike (kind_of t) (kind_of u)
    && (nat_eq (shared_extent j (shape_of t)) (shared_extent j (shape_of u)) && is_small (shape_with j (shape_of t) (shape_of u)))

abbrev pub all_join : Join → NodeTy → List NodeTy → Bool
all_join j t [] = true
all_join j t (u ∷ us) = joins j t u && all_join j (joined_ty j t u) us

abbrev pub list_joins : Join → List NodeTy → Bool
list_joins j [] = false
list_joins j (t ∷ ts) = is_joined (kind_of t) && all_join j t ts

abbrev pub rows_join : List (List NodeTy) → Bool
rows_join [] = true
rows_join (r ∷ rs) = list_joins Beside r && rows_join rs

abbrev pub bracket_joins : List (List NodeTy) → Bool
bracket_joins rows = rows_join rows && list_joins Above (map (list_ty Beside) rows)

-- ---- the conditions of the rule

abbrev pub all_level : Join → ℕ → List NodeTy → Bool
all_level j n [] = true
all_level j n (t ∷ ts) = nat_eq n (shared_extent j (shape_of t)) && all_level j n ts

abbrev pub list_level : Join → List NodeTy → Bool
list_level j [] = true
list_level j (t ∷ ts) = all_level j (shared_extent j (shape_of t)) ts

abbrev pub rows_level : List (List NodeTy) → Bool
rows_level [] = true
rows_level (r ∷ rs) = list_level Beside r && rows_level rs

abbrev pub whole_ty : List (List NodeTy) → NodeTy
whole_ty rows = list_ty Above (row_types rows)

abbrev pub is_limited : List (List NodeTy) → Bool
is_limited rows = is_single rows || is_small (shape_of (whole_ty rows))

abbrev pub is_kind : List (List NodeTy) → Bool
is_kind rows = rows_alike rows && one_kind (row_types rows)

abbrev pub bracket_fits : List (List NodeTy) → Bool
bracket_fits rows =
    is_kind rows && (rows_level rows && (list_level Above (row_types rows) && (has_elements rows && is_limited rows)))

-- ---- what a join keeps

kind_with : (j : Join) (t u : NodeTy) → kind_of (joined_ty j t u) ≡ kind_of t
unfolding kind_of joined_ty
kind_with j (FiNode t m c s) u = refl
kind_with j (LogicalNode s) u = refl
kind_with j (NumberNode s xs ys) (NumberNode t us vs) = refl
kind_with j t u = refl

shape_joined : (j : Join) (t u : NodeTy) → alike (kind_of t) (kind_of u) ≡ true → shape_of (joined_ty j t u) ≡ shape_with j (shape_of t) (shape_of u)
unfolding kind_of alike joined_ty
shape_joined j (FiNode t m c s) u h = refl
shape_joined j (LogicalNode s) u h = refl
shape_joined j (NumberNode s xs ys) (NumberNode t us vs) h = refl
shape_joined j (NumberNode s xs ys) (FiNode t m c r) h = absurd (cc)
shape_joined j (NumberNode s xs ys) (LogicalNode r) h = absurd (cc)
shape_joined j (NumberNode s xs ys) (IndexNode lo hi) h = absurd (cc)
shape_joined j (NumberNode s xs ys) (TextNode text) h = absurd (cc)
shape_joined j (NumberNode s xs ys) (MathNode m) h = absurd (cc)
shape_joined j (NumberNode s xs ys) (TypeNode t) h = absurd (cc)
shape_joined j (IndexNode lo hi) u h = absurd (cc)
shape_joined j (TextNode text) u h = absurd (cc)
shape_joined j (MathNode m) u h = absurd (cc)
shape_joined j (TypeNode t) u h = absurd (cc)

extent_with : (j : Join) (s t : Shape) → shared_extent j (shape_with j s t) ≡ shared_extent j s
extent_with Beside s t = refl
extent_with Above s t = refl

kinds_stay : (j : Join) (t u : NodeTy) (us : List NodeTy) → all_alike (kind_of (joined_ty j t u)) us ≡ all_alike (kind_of t) us
kinds_stay j t u us = ap (λ k. all_alike k us) (kind_with j t u)

levels_stay : (j : Join) (t u : NodeTy) (us : List NodeTy) → alike (kind_of t) (kind_of u) ≡ true → all_level j (shared_extent j (shape_of (joined_ty j t u))) us ≡ all_level j (shared_extent j (shape_of t)) us
levels_stay j t u us a = ap (λ n. all_level j n us) (ap (λ s. shared_extent j s) (shape_joined j t u a) ∙ extent_with j (shape_of t) (shape_of u))

small_joined : (j : Join) (t u : NodeTy) → alike (kind_of t) (kind_of u) ≡ true → is_small (shape_of (joined_ty j t u)) ≡ is_small (shape_with j (shape_of t) (shape_of u))
small_joined j t u a = ap (λ s. is_small s) (shape_joined j t u a)

-- ---- a part has at most as many elements as the whole

small_part : (j : Join) (s t : Shape) → is_small (shape_with j s t) ≡ true → is_small s ≡ true
small_part Beside s t h =
    le-leb (s.rows * s.columns) 4096 (omega (arith, leb-true (s.rows * (s.columns + t.columns)) 4096 h, mul-add s.rows s.columns t.columns))
small_part Above s t h =
    le-leb (s.rows * s.columns) 4096
    (omega (arith, leb-true ((s.rows + t.rows) * s.columns) 4096 h, mul_comm (s.rows + t.rows) s.columns, mul-add s.columns s.rows t.rows, mul_comm s.columns s.rows))

small_other : (s t : Shape) → nat_eq s.columns t.columns ≡ true → is_small (shape_with Above s t) ≡ true → is_small t ≡ true
small_other s t e h =
    let widths : t.rows * t.columns ≡ t.rows * s.columns = ap (λ (n : ℕ). t.rows * n) (sym (eqb-true s.columns t.columns e)) in
    le-leb (t.rows * t.columns) 4096
    (omega (arith, leb-true ((s.rows + t.rows) * s.columns) 4096 h, widths, mul_comm (s.rows + t.rows) s.columns, mul-add s.columns s.rows t.rows, mul_comm s.columns t.rows))

first_small : (j : Join) (t : NodeTy) (us : List NodeTy) → all_alike (kind_of t) us ≡ true → is_small (shape_of (all_joined_ty j t us)) ≡ true → is_small (shape_of t) ≡ true
first_small j t [] a h = h
first_small j t (u ∷ us) a h =
    let b = and_parts (alike (kind_of t) (kind_of u)) (all_alike (kind_of t) us) a in
    small_part j (shape_of t) (shape_of u) (sym (small_joined j t u b.0) ∙ first_small j (joined_ty j t u) us (kinds_stay j t u us ∙ b.1) h)

abbrev each_small : List NodeTy → Bool
each_small [] = true
each_small (t ∷ ts) = is_small (shape_of t) && each_small ts

others_small : (t : NodeTy) (us : List NodeTy) → all_alike (kind_of t) us ≡ true → all_level Above (shared_extent Above (shape_of t)) us ≡ true → is_small (shape_of (all_joined_ty Above t us)) ≡ true → each_small us ≡ true
others_small t [] a m h = refl
others_small t (u ∷ us) a m h =
    let b = and_parts (alike (kind_of t) (kind_of u)) (all_alike (kind_of t) us) a in
    let c = and_parts (nat_eq (shared_extent Above (shape_of t)) (shared_extent Above (shape_of u))) (all_level Above (shared_extent Above (shape_of t)) us) m in
    let k = kinds_stay Above t u us ∙ b.1 in
    let s = sym (small_joined Above t u b.0) ∙ first_small Above (joined_ty Above t u) us k h in
    and_from (is_small (shape_of u)) (each_small us) (small_other (shape_of t) (shape_of u) c.0 s)
    (others_small (joined_ty Above t u) us k (levels_stay Above t u us b.0 ∙ c.1) h)

-- ---- one list

record Fitting (j : Join) (t : NodeTy) (us : List NodeTy) : Type 0 where
  kinds : all_alike (kind_of t) us ≡ true
  levels : all_level j (shared_extent j (shape_of t)) us ≡ true
  size : (is_one (t ∷ us) || is_small (shape_of (all_joined_ty j t us))) ≡ true

-- of a type that is small itself
whole_small : (j : Join) (t : NodeTy) (us : List NodeTy) → is_small (shape_of t) ≡ true → (is_one (t ∷ us) || is_small (shape_of (all_joined_ty j t us))) ≡ true → is_small (shape_of (all_joined_ty j t us)) ≡ true
whole_small j t [] e h = e
whole_small j t (u ∷ us) e h = h

list_fits : (j : Join) (t : NodeTy) (us : List NodeTy) → all_join j t us ≡ true → Fitting j t us
list_fits j t [] h = record { kinds = refl; levels = refl; size = refl }
list_fits j t (u ∷ us) h =
    let a = and_parts (joins j t u) (all_join j (joined_ty j t u) us) h in
    let b = and_parts (alike (kind_of t) (kind_of u)) (nat_eq (shared_extent j (shape_of t)) (shared_extent j (shape_of u)) && is_small (shape_with j (shape_of t) (shape_of u))) a.0 in
    let c = and_parts (nat_eq (shared_extent j (shape_of t)) (shared_extent j (shape_of u))) (is_small (shape_with j (shape_of t) (shape_of u))) b.1 in
    let f = list_fits j (joined_ty j t u) us a.1 in
    record {
      kinds = and_from (alike (kind_of t) (kind_of u)) (all_alike (kind_of t) us) b.0 (sym (kinds_stay j t u us) ∙ f.kinds);
      levels = and_from (nat_eq (shared_extent j (shape_of t)) (shared_extent j (shape_of u))) (all_level j (shared_extent j (shape_of t)) us) c.0 (sym (levels_stay j t u us b.0) ∙ f.levels);
      size = whole_small j (joined_ty j t u) us (small_joined j t u b.0 ∙ c.1) f.size;
    }

list_goes : (j : Join) (t : NodeTy) (us : List NodeTy) → Fitting j t us → all_join j t us ≡ true
list_goes j t [] f = refl
list_goes j t (u ∷ us) f =
    let b = and_parts (alike (kind_of t) (kind_of u)) (all_alike (kind_of t) us) f.kinds in
    let c = and_parts (nat_eq (shared_extent j (shape_of t)) (shared_extent j (shape_of u))) (all_level j (shared_extent j (shape_of t)) us) f.levels in
    let k = kinds_stay j t u us ∙ b.1 in
    let s = sym (small_joined j t u b.0) ∙ first_small j (joined_ty j t u) us k f.size in
    and_from (joins j t u) (all_join j (joined_ty j t u) us)
    (and_from (alike (kind_of t) (kind_of u)) (nat_eq (shared_extent j (shape_of t)) (shared_extent j (shape_of u)) && is_small (shape_with j (shape_of t) (shape_of u))) b.0
    (and_from (nat_eq (shared_extent j (shape_of t)) (shared_extent j (shape_of u))) (is_small (shape_with j (shape_of t) (shape_of u))) c.0 s))
    (list_goes j (joined_ty j t u) us
    (record { kinds = k; levels = levels_stay j t u us b.0 ∙ c.1; size = or_right (is_one (joined_ty j t u ∷ us)) (is_small (shape_of (all_joined_ty j (joined_ty j t u) us))) f.size }))

-- ---- all rows

record Rows (rows : List (List NodeTy)) : Type 0 where
  filled : all_filled rows ≡ true
  kinds : rows_alike rows ≡ true
  levels : rows_level rows ≡ true

rows_fit : (rows : List (List NodeTy)) → rows_join rows ≡ true → Rows rows
rows_fit [] h = record { filled = refl; kinds = refl; levels = refl }
rows_fit ([] ∷ rs) h = absurd (cc)
rows_fit ((t ∷ ts) ∷ rs) h =
    let a = and_parts (list_joins Beside (t ∷ ts)) (rows_join rs) h in
    let b = and_parts (is_joined (kind_of t)) (all_join Beside t ts) a.0 in
    let f = list_fits Beside t ts b.1 in
    let g = rows_fit rs a.1 in
    record {
      filled = g.filled;
      kinds = and_from (one_kind (t ∷ ts)) (rows_alike rs) (and_from (is_joined (kind_of t)) (all_alike (kind_of t) ts) b.0 f.kinds) g.kinds;
      levels = and_from (list_level Beside (t ∷ ts)) (rows_level rs) f.levels g.levels;
    }

-- a row is as large as its one element, or within the limit
abbrev row_limited : List NodeTy → Bool
row_limited r = is_one r || is_small (shape_of (list_ty Beside r))

abbrev rows_limited : List (List NodeTy) → Bool
rows_limited [] = true
rows_limited (r ∷ rs) = row_limited r && rows_limited rs

small_rows : (rows : List (List NodeTy)) → all_filled rows ≡ true → each_small (row_types rows) ≡ true → rows_limited rows ≡ true
small_rows [] f h = refl
small_rows ([] ∷ rs) f h = absurd (cc)
small_rows ((t ∷ ts) ∷ rs) f h =
    let a = and_parts (is_small (shape_of (all_joined_ty Beside t ts))) (each_small (row_types rs)) h in
    and_from (row_limited (t ∷ ts)) (rows_limited rs) (or_right (is_one (t ∷ ts)) (is_small (shape_of (all_joined_ty Beside t ts))) a.0) (small_rows rs f a.1)

rows_go : (rows : List (List NodeTy)) → Rows rows → rows_limited rows ≡ true → rows_join rows ≡ true
rows_go [] r h = refl
rows_go ([] ∷ rs) r h = absurd (let e = r.filled in cc)
rows_go ((t ∷ ts) ∷ rs) r h =
    let a = and_parts (row_limited (t ∷ ts)) (rows_limited rs) h in
    let b = and_parts (one_kind (t ∷ ts)) (rows_alike rs) r.kinds in
    let c = and_parts (is_joined (kind_of t)) (all_alike (kind_of t) ts) b.0 in
    let d = and_parts (list_level Beside (t ∷ ts)) (rows_level rs) r.levels in
    and_from (list_joins Beside (t ∷ ts)) (rows_join rs)
    (and_from (is_joined (kind_of t)) (all_join Beside t ts) c.0 (list_goes Beside t ts (record { kinds = c.1; levels = d.0; size = a.0 })))
    (rows_go rs (record { filled = r.filled; kinds = b.1; levels = d.1 }) a.1)

pub types_of_rows : (rows : List (List NodeTy)) → all_filled rows ≡ true → map (list_ty Beside) rows ≡ row_types rows
types_of_rows [] f = refl
types_of_rows ([] ∷ rs) f = absurd (cc)
types_of_rows ((t ∷ ts) ∷ rs) f = ap (λ us. all_joined_ty Beside t ts ∷ us) (types_of_rows rs f)

-- ---- the whole

-- several rows within the limit, or a single one
limit_from : (t : NodeTy) (ts : List NodeTy) (rs : List (List NodeTy)) → all_filled rs ≡ true → row_limited (t ∷ ts) ≡ true → (is_one (row_types ((t ∷ ts) ∷ rs)) || is_small (shape_of (whole_ty ((t ∷ ts) ∷ rs)))) ≡ true → is_limited ((t ∷ ts) ∷ rs) ≡ true
limit_from t ts [] f h k = h
limit_from t ts ([] ∷ rs) f h k = absurd (cc)
limit_from t ts ((u ∷ us) ∷ rs) f h k = k

limit_of : (t : NodeTy) (ts : List NodeTy) (rs : List (List NodeTy)) → all_filled rs ≡ true → is_limited ((t ∷ ts) ∷ rs) ≡ true → (is_one (row_types ((t ∷ ts) ∷ rs)) || is_small (shape_of (whole_ty ((t ∷ ts) ∷ rs)))) ≡ true
limit_of t ts [] f h = refl
limit_of t ts ([] ∷ rs) f h = absurd (cc)
limit_of t ts ((u ∷ us) ∷ rs) f h = h

rows_limit : (t : NodeTy) (ts : List NodeTy) (rs : List (List NodeTy)) → all_filled rs ≡ true → all_alike (kind_of (all_joined_ty Beside t ts)) (row_types rs) ≡ true → all_level Above (shared_extent Above (shape_of (all_joined_ty Beside t ts))) (row_types rs) ≡ true → is_limited ((t ∷ ts) ∷ rs) ≡ true → rows_limited ((t ∷ ts) ∷ rs) ≡ true
rows_limit t ts [] f a m h = and_from (row_limited (t ∷ ts)) true h refl
rows_limit t ts ([] ∷ rs) f a m h = absurd (cc)
rows_limit t ts ((u ∷ us) ∷ rs) f a m h =
    let w : NodeTy = all_joined_ty Beside t ts in
    small_rows ((t ∷ ts) ∷ (u ∷ us) ∷ rs) f
    (and_from (is_small (shape_of w)) (each_small (row_types ((u ∷ us) ∷ rs))) (first_small Above w (row_types ((u ∷ us) ∷ rs)) a h) (others_small w (row_types ((u ∷ us) ∷ rs)) a m h))

fits_from : (rows : List (List NodeTy)) → bracket_joins rows ≡ true → bracket_fits rows ≡ true
fits_from [] h = absurd (cc)
fits_from ([] ∷ rs) h = absurd (cc)
fits_from ((t ∷ ts) ∷ rs) h =
    let rows : List (List NodeTy) = (t ∷ ts) ∷ rs in
    let w : NodeTy = all_joined_ty Beside t ts in
    let a = and_parts (rows_join rows) (list_joins Above (map (list_ty Beside) rows)) h in
    let r = rows_fit rows a.0 in
    let b = and_parts (is_joined (kind_of w)) (all_join Above w (row_types rs)) (subst (λ us. list_joins Above us ≡ true) (types_of_rows rows r.filled) a.1) in
    let f = list_fits Above w (row_types rs) b.1 in
    let c = and_parts (list_joins Beside (t ∷ ts)) (rows_join rs) a.0 in
    let d = and_parts (is_joined (kind_of t)) (all_join Beside t ts) c.0 in
    let g = list_fits Beside t ts d.1 in
    and_from (is_kind rows) (rows_level rows && (list_level Above (row_types rows) && (has_elements rows && is_limited rows)))
    (and_from (rows_alike rows) (one_kind (row_types rows)) r.kinds (and_from (is_joined (kind_of w)) (all_alike (kind_of w) (row_types rs)) b.0 f.kinds))
    (and_from (rows_level rows) (list_level Above (row_types rows) && (has_elements rows && is_limited rows)) r.levels
    (and_from (list_level Above (row_types rows)) (has_elements rows && is_limited rows) f.levels
    (and_from (has_elements rows) (is_limited rows) r.filled (limit_from t ts rs r.filled g.size f.size))))

joins_from : (rows : List (List NodeTy)) → bracket_fits rows ≡ true → bracket_joins rows ≡ true
joins_from [] h = absurd (cc)
joins_from (q ∷ rs) h =
    let rows : List (List NodeTy) = q ∷ rs in
    let a = and_parts (is_kind rows) (rows_level rows && (list_level Above (row_types rows) && (has_elements rows && is_limited rows))) h in
    let b = and_parts (rows_level rows) (list_level Above (row_types rows) && (has_elements rows && is_limited rows)) a.1 in
    let c = and_parts (list_level Above (row_types rows)) (has_elements rows && is_limited rows) b.1 in
    let d = and_parts (has_elements rows) (is_limited rows) c.1 in
    let e = and_parts (rows_alike rows) (one_kind (row_types rows)) a.0 in
    of q (record { filled = d.0; kinds = e.0; levels = b.0 }) e.1 c.0 d.1
  where
    of : (q : List NodeTy) → Rows (q ∷ rs) → one_kind (row_types (q ∷ rs)) ≡ true → list_level Above (row_types (q ∷ rs)) ≡ true → is_limited (q ∷ rs) ≡ true → bracket_joins (q ∷ rs) ≡ true
    of [] r k m l = absurd (let e = r.filled in cc)
    of (t ∷ ts) r k m l =
        let rows : List (List NodeTy) = (t ∷ ts) ∷ rs in
        let w : NodeTy = all_joined_ty Beside t ts in
        let p = and_parts (is_joined (kind_of w)) (all_alike (kind_of w) (row_types rs)) k in
        let f = list_goes Above w (row_types rs) (record { kinds = p.1; levels = m; size = limit_of t ts rs r.filled l }) in
        and_from (rows_join rows) (list_joins Above (map (list_ty Beside) rows))
        (rows_go rows r (rows_limit t ts rs r.filled p.1 m l))
        (subst (λ us. list_joins Above us ≡ true) (sym (types_of_rows rows r.filled)) (and_from (is_joined (kind_of w)) (all_join Above w (row_types rs)) p.0 f))

pub filled_from : (rows : List (List NodeTy)) → bracket_fits rows ≡ true → all_filled rows ≡ true
filled_from rows h = of rows (and_parts (rows_join rows) (list_joins Above (map (list_ty Beside) rows)) (joins_from rows h)).0
  where
    of : (rows : List (List NodeTy)) → rows_join rows ≡ true → all_filled rows ≡ true
    of rows e = (rows_fit rows e).filled

same_test : (b c : Bool) → (b ≡ true → c ≡ true) → (c ≡ true → b ≡ true) → b ≡ c
same_test true true f g = refl
same_test true false f g = sym (f refl)
same_test false true f g = g refl
same_test false false f g = refl

pub fits_where_joined : (rows : List (List NodeTy)) → bracket_joins rows ≡ bracket_fits rows
fits_where_joined rows = same_test (bracket_joins rows) (bracket_fits rows) (fits_from rows) (joins_from rows)
