-- What is told of expressions, from what is told of their parts.
use Rattle.std.proofs.Common.{◌≡◌, ℕ, List, [], ◌∷◌, ◌++◌, map, Option, Some, None, Err, sym, ap, subst, ◌∙◌}
use Rattle.std.specs.Prelude.{Result}
use Rattle.fic_base.specs.declared.code.Code.{Code}
use Rattle.fic_base.specs.declared.place.Place.{Place}
use Rattle.fic_base.specs.declared.refusal.Refusal.{Refusal}
use Rattle.num_type.specs.declared.memory.Stop.{Stop}
use Rattle.num_type.specs.declared.memory.Stop.TheVariants as stop
use Rattle.mat_ast.specs.declared.tree.BinOp.{BinOp}
use Rattle.mat_ast.specs.declared.tree.Expr.{Expr, out-Expr}
use Rattle.mat_ast.specs.declared.tree.ExprKind.TheVariants as kind
use Rattle.mat_ast.specs.declared.tree.Arg.{Arg}
use Rattle.mat_ast.specs.declared.tree.Arg.TheVariants as arg
use Rattle.mat_ast.specs.View.{expr_view, arg_view, args_view, args_of}
use Rattle.mat_ast.specs.Tree.{Exp, Binary}
use Rattle.walk_scope.specs.Told.{Told, Passes, Refuses, ◌>>=◌, bind}
use Rattle.walk_scope.specs.Scope.{Scope, unbuilt}
use Rattle.scalar_walk.specs.Walk.{Types, Typed, typed, args_typed, pair_typed}
use Rattle.walk_scope.specs.Rules.{around_pair}
use Rattle.fi_rules.specs.Pairs.{work_of}
use Rattle.fi_rules.specs.Types.{Ty, OtherTy}
use Rattle.walk_scope.specs.View.{Tells, StopTells}
use Rattle.walk_scope.proofs.Tell.{err_tells, part_tells, next_tells, passed}
use Rattle.walk_scope.proofs.Opened.{range_view, range_by_view}
use Rattle.scalar_walk.proofs.Views.{item_view, all_view}

-- a part refused in a bind refuses the whole
pub part_stops : {A B : Type 0} (s : Stop Refusal) (told : Told A) (next : A → Told B) → StopTells s told → StopTells s (bind told next)
unfolding bind
part_stops stop.Memory told next h = tt
part_stops (stop.Refused r) told next h = ap (λ t. bind t next) h

-- behind a part that passes
pub stops_behind : {A B : Type 0} (s : Stop Refusal) (told : Told A) (x : A) (next : A → Told B) → told ≡ Passes x → StopTells s (next x) → StopTells s (bind told next)
stops_behind s told x next h t = subst (StopTells s) (sym (passed told x next h)) t

-- an answer of one form as a stop of it
pub tells_stop : {R A : Type 0} (s : Stop Refusal) (view : R → A) (told : Told A) → Tells {R = R} (Err s) view told → StopTells s told
tells_stop stop.Memory view told h = h
tells_stop (stop.Refused r) view told h = h

-- ---- a binary operator

pub binary_first : {R S : Type 0} (s : Stop Refusal) (view : R → Typed) (whole : S → Typed) (e : Exp) (at : Place) (o : BinOp) (a b : Exp) (sc : Scope) (types : Types) (around : Option (List ℕ)) (n : ℕ) → e ≡ Binary at o a b → Tells {R = R} (Err s) view (typed a sc types around n) → Tells {R = S} (Err s) whole (typed e sc types around n)
binary_first s view whole e at o a b sc types around n h t =
    subst (λ x. Tells (Err s) whole (typed x sc types around n)) (sym h)
    (part_tells s view whole (typed a sc types around n) (λ x. typed b sc types around x.1 >>= (λ y. pair_typed at (around_pair (sc.shown at) a b) (work_of o) x.0 y.0 y.1)) t)

pub binary_second : {R S : Type 0} (s : Stop Refusal) (view : R → Typed) (whole : S → Typed) (e : Exp) (at : Place) (o : BinOp) (a b : Exp) (sc : Scope) (types : Types) (around : Option (List ℕ)) (n : ℕ) (x : Typed) → e ≡ Binary at o a b → typed a sc types around n ≡ Passes x → Tells {R = R} (Err s) view (typed b sc types around x.1) → Tells {R = S} (Err s) whole (typed e sc types around n)
binary_second s view whole e at o a b sc types around n x h p t =
    subst (λ x. Tells (Err s) whole (typed x sc types around n)) (sym h)
    (next_tells (Err s) whole (typed a sc types around n) x (λ x. typed b sc types around x.1 >>= (λ y. pair_typed at (around_pair (sc.shown at) a b) (work_of o) x.0 y.0 y.1)) p
    (part_tells s view whole (typed b sc types around x.1) (λ y. pair_typed at (around_pair (sc.shown at) a b) (work_of o) x.0 y.0 y.1) t))

pub binary_last : {S : Type 0} (r : Result S (Stop Refusal)) (whole : S → Typed) (e : Exp) (at : Place) (o : BinOp) (a b : Exp) (sc : Scope) (types : Types) (around : Option (List ℕ)) (n : ℕ) (x y : Typed) → e ≡ Binary at o a b → typed a sc types around n ≡ Passes x → typed b sc types around x.1 ≡ Passes y → Tells r whole (pair_typed at (around_pair (sc.shown at) a b) (work_of o) x.0 y.0 y.1) → Tells r whole (typed e sc types around n)
binary_last r whole e at o a b sc types around n x y h p q t =
    subst (λ x. Tells r whole (typed x sc types around n)) (sym h)
    (next_tells r whole (typed a sc types around n) x (λ x. typed b sc types around x.1 >>= (λ y. pair_typed at (around_pair (sc.shown at) a b) (work_of o) x.0 y.0 y.1)) p
    (next_tells r whole (typed b sc types around x.1) y (λ y. pair_typed at (around_pair (sc.shown at) a b) (work_of o) x.0 y.0 y.1) q t))

-- ---- a range

pub range_first : {R S : Type 0} (s : Stop Refusal) (view : R → Typed) (whole : S → Typed) (e first : Expr) (step : Option Expr) (last : Expr) (sc : Scope) (types : Types) (around : Option (List ℕ)) (n : ℕ) → (out-Expr e).kind ≡ kind.Range first step last → Tells {R = R} (Err s) view (typed (expr_view first) sc types around n) → Tells {R = S} (Err s) whole (typed (expr_view e) sc types around n)
range_first s view whole e first None last sc types around n h t =
    subst (λ x. Tells (Err s) whole (typed x sc types around n)) (sym (range_view e first last h))
    (part_tells s view whole (typed (expr_view first) sc types around n) (λ x. typed (expr_view last) sc types around x.1 >>= (λ y. unbuilt sc (out-Expr e).place)) t)
range_first s view whole e first (Some step) last sc types around n h t =
    subst (λ x. Tells (Err s) whole (typed x sc types around n)) (sym (range_by_view e first step last h))
    (part_tells s view whole (typed (expr_view first) sc types around n) (λ x. typed (expr_view step) sc types around x.1 >>= (λ y. typed (expr_view last) sc types around y.1 >>= (λ z. unbuilt sc (out-Expr e).place))) t)

pub range_last : {S : Type 0} (s : Stop Refusal) (whole : S → Typed) (e first : Expr) (step : Option Expr) (last : Expr) (sc : Scope) (types : Types) (around : Option (List ℕ)) (n : ℕ) (x : Typed) → (out-Expr e).kind ≡ kind.Range first step last → step ≡ None → typed (expr_view first) sc types around n ≡ Passes x → StopTells {A = Typed} s (bind (typed (expr_view last) sc types around x.1) (λ y. unbuilt sc (out-Expr e).place)) → Tells {R = S} (Err s) whole (typed (expr_view e) sc types around n)
range_last s whole e first step last sc types around n x h none p t =
    subst (λ x. Tells (Err s) whole (typed x sc types around n)) (sym (range_view e first last (h ∙ ap (λ o. kind.Range first o last) none)))
    (next_tells (Err s) whole (typed (expr_view first) sc types around n) x (λ x. typed (expr_view last) sc types around x.1 >>= (λ y. unbuilt sc (out-Expr e).place)) p
    (err_tells s whole (typed (expr_view last) sc types around x.1 >>= (λ y. unbuilt sc (out-Expr e).place)) t))

pub range_step : {R S : Type 0} (s : Stop Refusal) (view : R → Typed) (whole : S → Typed) (e first : Expr) (step : Option Expr) (by last : Expr) (sc : Scope) (types : Types) (around : Option (List ℕ)) (n : ℕ) (x : Typed) → (out-Expr e).kind ≡ kind.Range first step last → step ≡ Some by → typed (expr_view first) sc types around n ≡ Passes x → Tells {R = R} (Err s) view (typed (expr_view by) sc types around x.1) → Tells {R = S} (Err s) whole (typed (expr_view e) sc types around n)
range_step s view whole e first step by last sc types around n x h some p t =
    subst (λ x. Tells (Err s) whole (typed x sc types around n)) (sym (range_by_view e first by last (h ∙ ap (λ o. kind.Range first o last) some)))
    (next_tells (Err s) whole (typed (expr_view first) sc types around n) x (λ x. typed (expr_view by) sc types around x.1 >>= (λ y. typed (expr_view last) sc types around y.1 >>= (λ z. unbuilt sc (out-Expr e).place))) p
    (part_tells s view whole (typed (expr_view by) sc types around x.1) (λ y. typed (expr_view last) sc types around y.1 >>= (λ z. unbuilt sc (out-Expr e).place)) t))

pub range_by_last : {S : Type 0} (s : Stop Refusal) (whole : S → Typed) (e first : Expr) (step : Option Expr) (by last : Expr) (sc : Scope) (types : Types) (around : Option (List ℕ)) (n : ℕ) (x y : Typed) → (out-Expr e).kind ≡ kind.Range first step last → step ≡ Some by → typed (expr_view first) sc types around n ≡ Passes x → typed (expr_view by) sc types around x.1 ≡ Passes y → StopTells {A = Typed} s (bind (typed (expr_view last) sc types around y.1) (λ z. unbuilt sc (out-Expr e).place)) → Tells {R = S} (Err s) whole (typed (expr_view e) sc types around n)
range_by_last s whole e first step by last sc types around n x y h some p q t =
    subst (λ x. Tells (Err s) whole (typed x sc types around n)) (sym (range_by_view e first by last (h ∙ ap (λ o. kind.Range first o last) some)))
    (next_tells (Err s) whole (typed (expr_view first) sc types around n) x (λ x. typed (expr_view by) sc types around x.1 >>= (λ y. typed (expr_view last) sc types around y.1 >>= (λ z. unbuilt sc (out-Expr e).place))) p
    (next_tells (Err s) whole (typed (expr_view by) sc types around x.1) y (λ y. typed (expr_view last) sc types around y.1 >>= (λ z. unbuilt sc (out-Expr e).place)) q
    (err_tells s whole (typed (expr_view last) sc types around y.1 >>= (λ z. unbuilt sc (out-Expr e).place)) t)))

-- ---- arguments

passed_or : {A : Type 0} → A → Told A → A
passed_or d (Passes x) = x
passed_or d (Refuses code at shown) = d

pub same_passed : {A : Type 0} (x y : A) → Passes x ≡ Passes y → x ≡ y
unfolding passed_or
same_passed x y h = ap (passed_or x) h

pub no_passes : {A : Type 0} (x : A) (code : Code) (at : Place) (shown : List ℕ) → Passes x ≡ Refuses code at shown → ⊥
no_passes x code at shown h = cc

-- a part whose result is taken on, and what is next
taken_on : {A B C : Type 0} (told : Told A) (f : A → B) (m : B) (next : B → Told C) → bind told (λ r. Passes (f r)) ≡ Passes m → bind told (λ r. next (f r)) ≡ next m
unfolding bind
taken_on (Passes x) f m next h = ap next (same_passed (f x) m h)
taken_on (Refuses code at shown) f m next h = absurd (no_passes m code at shown (sym h))

taken_stop : {A B C : Type 0} (told : Told A) (f : A → B) (next : A → Told C) (code : Code) (at : Place) (shown : List ℕ) → bind told (λ r. Passes (f r)) ≡ Refuses code at shown → bind told next ≡ Refuses code at shown
unfolding bind
taken_stop (Passes x) f next code at shown h = absurd (no_passes (f x) code at shown h)
taken_stop (Refuses c p t) f next code at shown h = ap (λ g. bind g (λ x. Refuses code at shown)) h

pub args_step : (a : Arg) (more : List Arg) (sc : Scope) (types : Types) (around : Option (List ℕ)) (p q : List Ty × ℕ) → args_typed (args_view (a ∷ [])) sc types around p ≡ Passes q → args_typed (args_view (a ∷ more)) sc types around p ≡ args_typed (args_view more) sc types around q
args_step a more sc types around p q h = by (arg_view a) h
  where
    by : (o : Option Exp) → args_typed (args_of (o ∷ [])) sc types around p ≡ Passes q → args_typed (args_of (o ∷ map arg_view more)) sc types around p ≡ args_typed (args_view more) sc types around q
    by None h = ap (args_typed (args_view more) sc types around) (same_passed (p.0 ++ (OtherTy ∷ []), p.1) q h)
    by (Some e) h = taken_on (typed e sc types around p.1) (λ r. (p.0 ++ (r.0 ∷ []), r.1)) q (args_typed (args_view more) sc types around) h

pub args_stop : {R S : Type 0} (s : Stop Refusal) (view : R → List Ty × ℕ) (whole : S → List Ty × ℕ) (a : Arg) (more : List Arg) (sc : Scope) (types : Types) (around : Option (List ℕ)) (p : List Ty × ℕ) → Tells {R = R} (Err s) view (args_typed (args_view (a ∷ [])) sc types around p) → Tells {R = S} (Err s) whole (args_typed (args_view (a ∷ more)) sc types around p)
args_stop stop.Memory view whole a more sc types around p h = tt
args_stop (stop.Refused r) view whole a more sc types around p h = by (arg_view a) h
  where
    by : (o : Option Exp) → args_typed (args_of (o ∷ [])) sc types around p ≡ Refuses r.code r.place r.shown → args_typed (args_of (o ∷ map arg_view more)) sc types around p ≡ Refuses r.code r.place r.shown
    by None h = absurd (no_passes (p.0 ++ (OtherTy ∷ []), p.1) r.code r.place r.shown h)
    by (Some e) h = taken_stop (typed e sc types around p.1) (λ r. (p.0 ++ (r.0 ∷ []), r.1)) (λ r. args_typed (args_view more) sc types around (p.0 ++ (r.0 ∷ []), r.1)) r.code r.place r.shown h

-- an expression alone as the arguments
pub item_told : (a : Arg) (e : Expr) (sc : Scope) (types : Types) (around : Option (List ℕ)) (p : List Ty × ℕ) (x : Typed) → a ≡ arg.Item e → typed (expr_view e) sc types around p.1 ≡ Passes x → args_typed (args_view (a ∷ [])) sc types around p ≡ Passes (p.0 ++ (x.0 ∷ []), x.1)
item_told a e sc types around p x h q =
    ap (λ l. args_typed l sc types around p) (item_view a e h) ∙ passed (typed (expr_view e) sc types around p.1) x (λ r. Passes (p.0 ++ (r.0 ∷ []), r.1)) q

pub item_stop : {R S : Type 0} (s : Stop Refusal) (view : R → Typed) (whole : S → List Ty × ℕ) (a : Arg) (e : Expr) (sc : Scope) (types : Types) (around : Option (List ℕ)) (p : List Ty × ℕ) → a ≡ arg.Item e → Tells {R = R} (Err s) view (typed (expr_view e) sc types around p.1) → Tells {R = S} (Err s) whole (args_typed (args_view (a ∷ [])) sc types around p)
item_stop s view whole a e sc types around p h t =
    subst (λ l. Tells (Err s) whole (args_typed l sc types around p)) (sym (item_view a e h)) (part_tells s view whole (typed (expr_view e) sc types around p.1) (λ r. Passes (p.0 ++ (r.0 ∷ []), r.1)) t)

-- `:` alone as the arguments
pub colon_told : (a : Arg) (sc : Scope) (types : Types) (around : Option (List ℕ)) (p : List Ty × ℕ) → a ≡ arg.All → args_typed (args_view (a ∷ [])) sc types around p ≡ Passes (p.0 ++ (OtherTy ∷ []), p.1)
colon_told a sc types around p h = ap (λ l. args_typed l sc types around p) (all_view a h)
