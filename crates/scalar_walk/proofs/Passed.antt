-- Arguments of a call, one after another.
use Rattle.std.proofs.Common.{◌≡◌, ℕ, ◌≤◌, Bool, true, false, List, [], ◌∷◌, ◌++◌, map, Option, Some, None, refl, sym, ap, subst, ◌∙◌, arith}
use Rattle.std.proofs.lemmas.List.{map-append}
use Rattle.mat_ast.specs.declared.tree.Arg.{Arg}
use Rattle.mat_ast.specs.declared.tree.Arg.TheVariants as arg
use Rattle.mat_ast.specs.View.{expr_view, arg_view, args_view, args_of}
use Rattle.mat_ast.specs.declared.tree.Expr.{Expr}
use Rattle.std.specs.Prelude.{ℤ, ◌||◌, Result, Ok, Err, IfOk}
use Rattle.fic_base.specs.declared.refusal.Refusal.{Refusal}
use Rattle.num_type.specs.declared.memory.Stop.{Stop}
use Rattle.walk_scope.specs.View.{Tells}
use Rattle.fic_base.specs.declared.code.Code.{Code}
use Rattle.fic_base.specs.declared.code.Code.TheVariants as code
use Rattle.fic_base.specs.declared.place.Place.{Place}
use Rattle.fi_rules.specs.declared.ty.Ty as code_ty
use Rattle.fi_rules.specs.declared.built_ins.BuiltIn.{BuiltIn}
use Rattle.fi_rules.specs.Checked as checked
use Rattle.fi_rules.specs.Checked.{Checked}
use Rattle.fi_rules.specs.Calls.{Asked, Attached, asked, with_math}
use Rattle.fi_rules.specs.Texts.{Around, shown_text}
use Rattle.fi_rules.specs.Types.{Ty, FiTy, NumberTy, TextTy, MathTy, TypeTy, OtherTy}
use Rattle.fi_rules.specs.View.{ty_view, is_fi}
use Rattle.fi_math.specs.declared.fimath.Fimath.{Fimath}
use Rattle.std.specs.List.{slice_get}
use Rattle.scalar_program.specs.Lowered as lowered
use Rattle.scalar_program.proofs.Literals.{literal_reach}
use Rattle.walk_scope.specs.Told.{Told, Passes, Refuses, bind, choose}
use Rattle.walk_scope.specs.Names.{divisions, supported, unsupported, is_listed}
use Rattle.walk_scope.specs.Rules.{told_at, around_one}
use Rattle.walk_scope.specs.Scope.{Scope, unbuilt, other_name}
use Rattle.scalar_walk.specs.declared.arguments.Arguments as args_code
use Rattle.scalar_walk.specs.declared.operand.Held as code_held
use Rattle.scalar_walk.specs.declared.emitted.Emitted as code_emitted
use Rattle.scalar_walk.specs.Walk.{Types, Typed, known, apply_typed, name_called, free_built_in}
use Rattle.scalar_walk.proofs.Walks.{no_passes}
use Rattle.mat_ast.specs.Tree.{Exp}
use Rattle.fi_eval.specs.Meaning.{Context, is_variable}
use Rattle.lower_scalar.specs.Part.{reach}
use Rattle.scalar_program.specs.Lowered.{Names, Low, Passed, Literal, IsBuilt, IsLowered, AreLowered, with_passed, read}
use Rattle.scalar_walk.specs.declared.operand.Spot.{Spot}
use Rattle.scalar_walk.specs.Walk.{has_colon}
use Rattle.scalar_walk.specs.View.{AreUnder, spot_view, held_view, emitted_view, low_view, passed_view}
use Rattle.scalar_walk.proofs.Views.{item_view, all_view}

-- where the first argument and the others are no `:`
pub no_colon : (a : Arg) (more : List Arg) → has_colon (args_view (a ∷ more)) ≡ false → (has_colon (args_view (a ∷ [])) ≡ false) × (has_colon (args_view more) ≡ false)
no_colon a more h = by (arg_view a) h
  where
    by : (o : Option Exp) → has_colon (args_of (o ∷ map arg_view more)) ≡ false → (has_colon (args_of (o ∷ [])) ≡ false) × (has_colon (args_view more) ≡ false)
    by None h = absurd (cc)
    by (Some e) h = (refl, h)

-- one argument, and then the others
pub args_low : (a : Arg) (more : List Arg) (cx : Context) (names : Names) (p q end : Passed) → AreLowered (args_view (a ∷ [])) cx names p q → AreLowered (args_view more) cx names q end → AreLowered (args_view (a ∷ more)) cx names p end
args_low a more cx names p q end h g = by (arg_view a) h
  where
    by : (o : Option Exp) → AreLowered (args_of (o ∷ [])) cx names p q → AreLowered (args_of (o ∷ map arg_view more)) cx names p end
    by None h = absurd h
    by (Some e) h = (h.0, h.1, subst (λ r. AreLowered (args_view more) cx names r end) h.2 g)

-- an expression alone as the arguments
pub item_low : (a : Arg) (e : Expr) (cx : Context) (names : Names) (p q : Passed) (x : Low) → a ≡ arg.Item e → IsLowered (expr_view e) cx names p.emitted x → q ≡ with_passed p x → AreLowered (args_view (a ∷ [])) cx names p q
item_low a e cx names p q x h low is = subst (λ l. AreLowered l cx names p q) (sym (item_view a e h)) (x, low, is)

-- `:` is one
pub colon_there : {A : Type 0} (a : Arg) → a ≡ arg.All → has_colon (args_view (a ∷ [])) ≡ false → A
colon_there a h e = let one : has_colon (args_view (a ∷ [])) ≡ true = ap has_colon (all_view a h) in absurd (let f : true ≡ false = sym one ∙ e in cc)

-- ---- spots below the next variable

pub under_more : (ss : List Spot) (m n : ℕ) → m ≤ n → AreUnder ss m → AreUnder ss n
under_more [] m n l h = tt
under_more (s ∷ ss) m n l h = (omega (arith, l, h.0), under_more ss m n l h.1)

pub under_with : (ss later : List Spot) (s : Spot) (n : ℕ) → later ≡ ss ++ (s ∷ []) → AreUnder ss n → reach (read (spot_view s)) ≤ n → AreUnder later n
under_with ss later s n e h u = subst (λ l. AreUnder l n) (sym e) (by ss h)
  where
    by : (l : List Spot) → AreUnder l n → AreUnder (l ++ (s ∷ [])) n
    by [] h = (u, tt)
    by (x ∷ l) h = (h.0, by l h.1)

-- a literal stands below everything
pub literal_under : (s : Spot) (signed : Bool) (z : ℤ) (n : ℕ) → spot_view s ≡ Literal signed z → reach (read (spot_view s)) ≤ n
literal_under s signed z n h = subst (λ p. reach (read p) ≤ n) (sym h) (omega (arith, literal_reach signed z))

-- ---- the types of arguments

-- one more argument
pub types_more : (ts later : List code_ty.Ty) (x : code_ty.Ty) (u : Ty) (nodes : ℕ) → later ≡ ts ++ (x ∷ []) → ty_view x ≡ u → ◌≡◌ {A = Told (List Ty × ℕ)} (Passes (map ty_view ts ++ (u ∷ []), nodes)) (Passes (map ty_view later, nodes))
types_more ts later x u nodes l h =
    ap (λ (us : List Ty). Passes (us, nodes)) (ap (λ v. map ty_view ts ++ (v ∷ [])) (sym h) ∙ sym (ap (map ty_view) l ∙ map-append ty_view ts (x ∷ [])))

-- one more that is lowered
pub passed_more : (p q : args_code.Arguments) (x : code_held.Held) (em later : code_emitted.Emitted) → q.types.items ≡ p.types.items ++ (x.ty ∷ []) → q.spots.items ≡ p.spots.items ++ (x.spot ∷ []) → passed_view q later ≡ with_passed (passed_view p em) (low_view x later)
passed_more p q x em later t s = λ i. record {
  types = (ap (map ty_view) t ∙ map-append ty_view p.types.items (x.ty ∷ [])) i;
  spots = (ap (map spot_view) s ∙ map-append spot_view p.spots.items (x.spot ∷ [])) i;
  emitted = emitted_view later;
}

-- ---- calls with `:`

no_passing : {A : Type 0} (code : Code) (at : Place) (shown : List ℕ) (x : A) → Refuses code at shown ≡ Passes x → ⊥
no_passing code at shown x h = no_passes x code at shown (sym h)

chosen_refuses : (a b : Bool) (c d e : Code) (at : Place) (name : List ℕ) (x : Typed) → choose a (Refuses c at name) (choose b (Refuses d at name) (Refuses e at name)) ≡ Passes x → ⊥
unfolding choose
chosen_refuses true b c d e at name x h = no_passing c at name x h
chosen_refuses false true c d e at name x h = no_passing d at name x h
chosen_refuses false false c d e at name x h = no_passing e at name x h

other_refuses : (sc : Scope) (at : Place) (name : List ℕ) (x : Typed) → other_name sc at name ≡ Passes x → ⊥
other_refuses sc at name x h =
    chosen_refuses (is_listed name sc.context.functions || (is_listed name supported || is_listed name unsupported)) (is_listed name divisions) code.Unsupported code.Division code.UnknownName at name x h

missing_refuses : (at : Place) (around : Around) (o : Checked Asked) (x : Typed) → told_at at around (checked.bind o (λ k. checked.Missing code.BadArgument checked.Itself)) ≡ Passes x → ⊥
unfolding told_at checked.bind
missing_refuses at around (checked.Fine k) x h = no_passing code.BadArgument at (shown_text around checked.Itself) x h
missing_refuses at around (checked.Missing c shown) x h = no_passing c at (shown_text around shown) x h

name_refuses : (sc : Scope) (at : Place) (name : List ℕ) (o : Option BuiltIn) (ts : List Ty) (nodes : ℕ) (x : Typed) → name_called sc at name o true ts nodes ≡ Passes x → ⊥
unfolding name_called
name_refuses sc at name None ts nodes x h = other_refuses sc at name x h
name_refuses sc at name (Some b) ts nodes x h = missing_refuses at (around_one name) (asked b ts) x h

read_refuses : (sc : Scope) (at : Place) (name : List ℕ) (o : Option Ty) (x : Typed) → bind (known at name o) (λ t. unbuilt sc at) ≡ Passes x → ⊥
unfolding known bind
read_refuses sc at name None x h = no_passing code.NotAssigned at name x h
read_refuses sc at name (Some t) x h = no_passing code.Unsupported at (sc.shown at) x h

either_refuses : (v : Bool) (a b : Told Typed) (x : Typed) → (a ≡ Passes x → ⊥) → (b ≡ Passes x → ⊥) → choose v a b ≡ Passes x → ⊥
unfolding choose
either_refuses true a b x f g h = f h
either_refuses false a b x f g h = g h

-- a call that passes has no `:`
pub passes_no_colon : (sc : Scope) (types : Types) (at : Place) (name : List ℕ) (colon : Bool) (p : List Ty × ℕ) (x : Typed) → apply_typed sc types at name colon p ≡ Passes x → colon ≡ false
passes_no_colon sc types at name false p x h = refl
passes_no_colon sc types at name true p x h = absurd (by (is_variable sc.context name) h)
  where
    by : (v : Bool) → choose v (bind (known at name (types name)) (λ t. unbuilt sc at)) (name_called sc at name (free_built_in sc.context name) true p.0 p.1) ≡ Passes x → ⊥
    by v h = either_refuses v _ _ x (read_refuses sc at name (types name) x) (name_refuses sc at name (free_built_in sc.context name) p.0 p.1 x) h

-- a fact of arguments without `:`, behind a call that passes
pub kept_low : (r : Result code_held.Held (Stop Refusal)) (view : code_held.Held → Typed) (sc : Scope) (types : Types) (at : Place) (name : List ℕ) (colon : Bool) (p : List Ty × ℕ) (P : Type 0) → Tells r view (apply_typed sc types at name colon p) → (colon ≡ false → P) → IfOk r (λ h. P)
kept_low (Ok o) view sc types at name colon p P h f = f (passes_no_colon sc types at name colon p (view o) h)
kept_low (Err s) view sc types at name colon p P h f = tt

-- ---- the first argument

pub some_is : {A : Type 0} (x y : A) → Some x ≡ Some y → x ≡ y
some_is x y h = ap (or_else x) h
  where
    or_else : {B : Type 0} → B → Option B → B
    or_else d None = d
    or_else d (Some z) = z

-- what holds where the first argument is this one
pub of_first : (types : List code_ty.Ty) (spots : List Spot) (x : code_ty.Ty) (s : Spot) → Some x ≡ slice_get types 0 → Some s ≡ slice_get spots 0
    → (P : List Ty → List lowered.Spot → Type 0) → ((us : List Ty) (ps : List lowered.Spot) → P (ty_view x ∷ us) (spot_view s ∷ ps)) → P (map ty_view types) (map spot_view spots)
of_first [] spots x s h g P f = absurd (cc)
of_first (t ∷ types) [] x s h g P f = absurd (cc)
of_first (t ∷ types) (p ∷ spots) x s h g P f =
    subst (λ (y : code_ty.Ty). P (ty_view y ∷ map ty_view types) (spot_view p ∷ map spot_view spots)) (some_is x t h)
    (subst (λ (q : Spot). P (ty_view x ∷ map ty_view types) (spot_view q ∷ map spot_view spots)) (some_is s p g) (f (map ty_view types) (map spot_view spots)))

-- another fimath on it
pub attached_built : (m : Option Fimath) (u : Ty) (us : List Ty) (p : lowered.Spot) (ps : List lowered.Spot) (h : code_held.Held) → is_fi u ≡ true → ty_view h.ty ≡ with_math m u → spot_view h.spot ≡ p
    → (em : lowered.Emitted) → IsBuilt (Attached m) (u ∷ us) (p ∷ ps) em (record { held = held_view h; emitted = em })
unfolding IsBuilt with_math
attached_built m (FiTy t n) us p ps h f t_is s_is em = λ i. record { held = record { spot = s_is i; ty = t_is i }; emitted = em }
attached_built m (NumberTy s cs) us p ps h f t_is s_is em = absurd (cc)
attached_built m (TextTy t) us p ps h f t_is s_is em = absurd (cc)
attached_built m (MathTy t) us p ps h f t_is s_is em = absurd (cc)
attached_built m (TypeTy t) us p ps h f t_is s_is em = absurd (cc)
attached_built m OtherTy us p ps h f t_is s_is em = absurd (cc)
