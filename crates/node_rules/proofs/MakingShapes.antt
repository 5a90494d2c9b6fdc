-- The shapes of what calls make are known before the limits of their types are tested.
use Rattle.std.proofs.Common.{◌≡◌, refl, ap, ◌∙◌, Bool, true, false, List, [], ◌∷◌}
use Rattle.std.specs.Prelude.{codes, Option}
use Rattle.fic_base.specs.declared.code.Code.{Code}
use Rattle.fic_base.specs.declared.code.Code.TheVariants as code
use Rattle.num_type.specs.Constants.{Exact}
use Rattle.num_type.specs.Types.{NumericType}
use Rattle.fi_math.specs.declared.fimath.Fimath.{Fimath}
use Rattle.fi_math.specs.Made.{Made, Is, Wide, Out, limited}
use Rattle.fi_rules.specs.declared.built_ins.BuiltIn.{BuiltIn}
use Rattle.fi_rules.specs.declared.built_ins.BuiltIn.TheVariants as built_in
use Rattle.fi_rules.specs.Calls.{Asked, Takes, Attaches, TakesSign, MakesType, MakesMath, asked, Built, Taken, Attached, Object, built}
use Rattle.fi_rules.specs.Checked as checked
use Rattle.fi_rules.specs.Checked.{Checked, Itself}
use Rattle.fi_rules.specs.Pairs.{limits_checked}
use Rattle.fi_rules.specs.Types.{TypeTy}
use Rattle.fi_rules.specs.Value.{Shape}
use Rattle.fi_meaning.specs.Calls.{takes}
use Rattle.fi_meaning.proofs.ShapesOperators.{Passes, passes, misses}
use Rattle.node_rules.specs.Arguments.{ArgumentTy, plain, wanted_node, constant_of, value_of, element_types}
use Rattle.node_rules.specs.Filling.{Filling, Plain, Like, filling_shape, filled_node, filled_worked}
use Rattle.node_rules.specs.Makers.{takes_parts, making_shape, first_ty, object_node, built_node, maker_worked, maker_ruled}
use Rattle.node_rules.specs.Ruled as rules
use Rattle.node_rules.specs.Ruled.{Ruled, Fine, Missing, Why, Shows, tested, ruled}
use Rattle.node_rules.specs.Types.{NodeTy, FiNode, TextNode, shape_of}
use Rattle.node_rules.proofs.Asked.{AsksCast, asks_cast, like_passes}

-- a type of this shape, if there is one
data Keeps (s : Shape) : Ruled NodeTy → Type 0 where
  keeps : (t : NodeTy) → shape_of t ≡ s → Keeps s (Fine t)
  lacks : (kind : Code) (why : Why) → Keeps s (Missing kind why)

kept : {s : Shape} {c : Ruled NodeTy} (t : NodeTy) → Keeps s c → c ≡ Fine t → shape_of t ≡ s
kept t (keeps u h) e = let i : t ≡ u = cc in ap shape_of i ∙ h
kept t (lacks kind why) e = absurd (cc)

-- ---- within the limits

made_keeps : (s : Shape) (h : NumericType → Built) (f : Built → NodeTy) (x : Made) → ((u : NumericType) → shape_of (f (h u)) ≡ s)
    → Keeps s (rules.bind (ruled (checked.bind (limits_checked x) (λ u. checked.Fine (h u)))) (λ r. Fine (f r)))
unfolding limits_checked checked.bind ruled rules.bind
made_keeps s h f (Is u) k = keeps _ (k u)
made_keeps s h f (Wide w) k = lacks _ _
made_keeps s h f (Out e) k = lacks _ _

attached_keeps : (m : Option Fimath) (c : Bool) (v : NodeTy) → shape_of (built_node (Attached m) c v) ≡ shape_of v
unfolding built_node
attached_keeps m c (FiNode t n d s) = refl
attached_keeps m c v = refl

worked_keeps : (c : Bool) (v : NodeTy) (a : Asked) → Keeps (making_shape a v) (rules.bind (ruled (built a)) (λ r. Fine (built_node r c v)))
unfolding making_shape built checked.bind ruled rules.bind built_node object_node
worked_keeps c v (Takes t m) = made_keeps (shape_of v) (λ u. Taken u m) (λ r. built_node r c v) (limited 64 t) (λ u. refl)
worked_keeps c v (Attaches m) = keeps _ (attached_keeps m c v)
worked_keeps c v TakesSign = keeps _ refl
worked_keeps c v (MakesType t) = made_keeps _ (λ u. Object (TypeTy u)) (λ r. built_node r c v) (limited 64 t) (λ u. refl)
worked_keeps c v (MakesMath m) = keeps _ refl

pub maker_shape : (b : BuiltIn) (args : List ArgumentTy) (a : Asked) (t : NodeTy) → maker_worked b args a ≡ Fine t → shape_of t ≡ making_shape a (first_ty args)
maker_shape b args a t e = kept t (worked_keeps _ (first_ty args) a) e

-- ---- casts

tested_keeps : {A : Type 0} (s : Shape) (kind : Code) (why : Why) (b : Bool) (x : A) (next : A → Ruled NodeTy) → Keeps s (next x) → Keeps s (rules.bind (tested kind why b x) next)
unfolding tested rules.bind
tested_keeps s kind why true x next h = h
tested_keeps s kind why false x next h = lacks _ _

supported_keeps : {A B : Type 0} (s : Shape) (kind : Code) (why : Why) (b : Bool) (x : A) (f : A → Ruled B) (next : B → Ruled NodeTy)
    → Keeps s (rules.bind (f x) next) → Keeps s (rules.bind (rules.bind (tested kind why b x) f) next)
unfolding tested rules.bind
supported_keeps s kind why true x f next h = h
supported_keeps s kind why false x f next h = lacks _ _

asked_keeps : {P : Asked → Type 0} (s : Shape) {c : Checked Asked} (f : Asked → Ruled Asked) (next : Asked → Ruled NodeTy)
    → Passes P c → ((a : Asked) → P a → Keeps s (rules.bind (f a) next)) → Keeps s (rules.bind (rules.bind (ruled c) f) next)
unfolding ruled rules.bind
asked_keeps s f next (passes a p) k = k a p
asked_keeps s f next (misses kind shown) k = lacks _ _

cast_keeps : (v a p : ArgumentTy) → Keeps (shape_of v.ty) (maker_ruled built_in.Cast (v ∷ a ∷ p ∷ []))
unfolding takes element_types asked making_shape first_ty
cast_keeps v a p =
    supported_keeps _ _ _ _ _ _ _ (asked_keeps _ _ _ (like_passes (value_of v.ty) (constant_of (wanted_node a.word a.ty)) (constant_of (wanted_node p.word p.ty))) of)
  where
    of : (x : Asked) → AsksCast (value_of v.ty) (constant_of (wanted_node p.word p.ty)) x
        → Keeps (shape_of v.ty) (rules.bind (tested code.BadArgument (Shows Itself) (takes_parts built_in.Cast (v ∷ a ∷ p ∷ [])) x) (maker_worked built_in.Cast (v ∷ a ∷ p ∷ [])))
    of x (asks_cast t m e f) = tested_keeps _ _ _ _ _ _ (worked_keeps _ v.ty (Takes t m))

filling_keeps : (z : Exact) (k : Filling) → Keeps (filling_shape k) (filled_worked z k)
unfolding filling_shape filled_worked
filling_keeps z (Plain s) = keeps (filled_node z s) refl
filling_keeps z (Like s p) = cast_keeps (plain (filled_node z s)) (plain (TextNode (codes "like"))) (plain p)

pub filled_shape : (z : Exact) (k : Filling) (t : NodeTy) → filled_worked z k ≡ Fine t → shape_of t ≡ filling_shape k
filled_shape z k t e = kept t (filling_keeps z k) e
