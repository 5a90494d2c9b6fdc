-- Pairs of names and values of properties.
use Rattle.std.proofs.Common.{◌≡◌, ◌∙◌, refl, sym, ap, ℕ, suc, ◌+◌, ◌*◌, ◌≤◌, ◌<◌, List, [], ◌∷◌, length, get_or, map, drop, drop-cons, Bool, true, false, arith}
use Rattle.std.specs.Prelude.{Option, Some, None, unwrap_or, if◌then◌else◌, bytes_eq}
use Rattle.std.specs.List.{list_any}
use Rattle.std.proofs.lemmas.List.{drop_all, get_or-map, length-map}
use Rattle.fi_math.specs.declared.fimath.Fimath.{Fimath}
use Rattle.fi_rules.specs.declared.ty.Ty as code_ty
use Rattle.fi_rules.specs.View.{ty_view}
use Rattle.fi_rules.specs.Types.{Ty, OtherTy}
use Rattle.fi_rules.specs.Options.{and_then}
use Rattle.fi_rules.specs.Arguments.{text_in}
use Rattle.fi_rules.specs.Properties.{with_property, with_properties, names_before}

pub all_set : (ts : List Ty) (n : ℕ) (seen : List (List ℕ)) (m : Fimath) → length ts ≤ n → Some m ≡ with_properties (drop n ts) seen m
unfolding with_properties
all_set ts n seen m h = rw (drop_all n ts h) refl

pub one_left : (ts : List Ty) (n : ℕ) (seen : List (List ℕ)) (m : Fimath) → length ts ≡ n + 1 → None ≡ with_properties (drop n ts) seen m
unfolding with_properties
one_left ts n seen m h =
    rw (drop-cons ts n OtherTy (let l : n < length ts = omega (arith, h) in l), drop_all (suc n) ts (let l : length ts ≤ suc n = omega (arith, h) in l)) refl

-- a pair and what is left behind it
pub pair_left : (ts : List Ty) (n : ℕ) → n + 2 ≤ length ts → drop n ts ≡ get_or ts n OtherTy ∷ get_or ts (suc n) OtherTy ∷ drop (suc (suc n)) ts
pair_left ts n h =
    drop-cons ts n OtherTy (let l : n < length ts = omega (arith, h) in l)
    ∙ ap (λ (xs : List Ty). get_or ts n OtherTy ∷ xs) (drop-cons ts (suc n) OtherTy (let l : suc n < length ts = omega (arith, h) in l))

pub no_text : (a t : Ty) (more : List Ty) (seen : List (List ℕ)) (m : Fimath) → text_in a ≡ None → with_properties (a ∷ t ∷ more) seen m ≡ None
unfolding with_properties and_then
no_text a t more seen m e = rw e refl

pub repeated : (a t : Ty) (text : List ℕ) (more : List Ty) (seen : List (List ℕ)) (m : Fimath) → text_in a ≡ Some text → list_any (bytes_eq text) seen ≡ true → with_properties (a ∷ t ∷ more) seen m ≡ None
unfolding with_properties and_then
repeated a t text more seen m e h = rw (e, h) refl

pub set_once : (a t : Ty) (text : List ℕ) (more : List Ty) (seen : List (List ℕ)) (m : Fimath) (r : Option Fimath) → text_in a ≡ Some text → list_any (bytes_eq text) seen ≡ false → r ≡ with_property text t m → with_properties (a ∷ t ∷ more) seen m ≡ and_then r (with_properties more (text ∷ seen))
unfolding with_properties and_then
set_once a t text more seen m r e h f = rw (e, h, f) refl

-- ---- a pair of arguments

viewed : (args : List code_ty.Ty) (i : ℕ) (a : code_ty.Ty) → i < length args → a ≡ get_or args i a → get_or (map ty_view args) i OtherTy ≡ ty_view a
viewed args i a h e = get_or-map ty_view args i a OtherTy h ∙ ap ty_view (sym e)

front : (args : List code_ty.Ty) (n : ℕ) (a b : code_ty.Ty) → n + 2 ≤ length args → a ≡ get_or args n a → b ≡ get_or args (n + 1) b → drop n (map ty_view args) ≡ ty_view a ∷ ty_view b ∷ drop (suc (suc n)) (map ty_view args)
front args n a b h e f =
    let next : n + 1 ≡ suc n = omega arith in
    let g : b ≡ get_or args (suc n) b = f ∙ ap (λ (k : ℕ). get_or args k b) next in
    pair_left (map ty_view args) n (let l : n + 2 ≤ length (map ty_view args) = omega (arith, h, length-map args ty_view) in l)
    ∙ (λ i. viewed args n a (let l : n < length args = omega (arith, h) in l) e i ∷ viewed args (suc n) b (let l : suc n < length args = omega (arith, h) in l) g i ∷ drop (suc (suc n)) (map ty_view args))

name_of : (args : List code_ty.Ty) (pairs : ℕ) (a : code_ty.Ty) (name : List ℕ) → pairs * 2 < length args → a ≡ get_or args (pairs * 2) a → text_in (ty_view a) ≡ Some name → names_before (pairs + 1) (map ty_view args) ≡ name ∷ names_before pairs (map ty_view args)
name_of args pairs a name h e t =
    let next : pairs + 1 ≡ suc pairs = omega arith in
    ap (λ (k : ℕ). names_before k (map ty_view args)) next
    ∙ ap (λ (x : Ty). unwrap_or (text_in x) [] ∷ names_before pairs (map ty_view args)) (viewed args (pairs * 2) a h e)
    ∙ ap (λ (o : Option (List ℕ)). unwrap_or o [] ∷ names_before pairs (map ty_view args)) t

behind : (args : List code_ty.Ty) (pairs : ℕ) → drop ((pairs + 1) * 2) (map ty_view args) ≡ drop (suc (suc (pairs * 2))) (map ty_view args)
behind args pairs = let e : (pairs + 1) * 2 ≡ suc (suc (pairs * 2)) = omega arith in ap (λ (k : ℕ). drop k (map ty_view args)) e

nothing_more : (next : Fimath → Option Fimath) → None ≡ and_then None next
unfolding and_then
nothing_more next = refl

pub no_words : (args : List code_ty.Ty) (pairs : ℕ) (m : Fimath) (a : code_ty.Ty) (next : Fimath → Option Fimath) → pairs * 2 + 2 ≤ length args → a ≡ get_or args (pairs * 2) a → text_in (ty_view a) ≡ None → with_properties (drop (pairs * 2) (map ty_view args)) (names_before pairs (map ty_view args)) m ≡ and_then None next
no_words args pairs m a next h e t =
    ap (λ (xs : List Ty). with_properties xs (names_before pairs (map ty_view args)) m) (pair_left (map ty_view args) (pairs * 2) (let l : pairs * 2 + 2 ≤ length (map ty_view args) = omega (arith, h, length-map args ty_view) in l))
    ∙ no_text (get_or (map ty_view args) (pairs * 2) OtherTy) (get_or (map ty_view args) (suc (pairs * 2)) OtherTy) (drop (suc (suc (pairs * 2))) (map ty_view args)) (names_before pairs (map ty_view args)) m
    (ap text_in (viewed args (pairs * 2) a (let l : pairs * 2 < length args = omega (arith, h) in l) e) ∙ t)
    ∙ nothing_more next

pub set_words : (args : List code_ty.Ty) (pairs : ℕ) (m : Fimath) (a b : code_ty.Ty) (name : List ℕ) (r : Option Fimath) → pairs * 2 + 2 ≤ length args → a ≡ get_or args (pairs * 2) a → b ≡ get_or args (pairs * 2 + 1) b → text_in (ty_view a) ≡ Some name → r ≡ (if list_any (bytes_eq name) (names_before pairs (map ty_view args)) then None else with_property name (ty_view b) m) → with_properties (drop (pairs * 2) (map ty_view args)) (names_before pairs (map ty_view args)) m ≡ and_then r (with_properties (drop ((pairs + 1) * 2) (map ty_view args)) (names_before (pairs + 1) (map ty_view args)))
set_words args pairs m a b name r h e f t s = by (list_any (bytes_eq name) (names_before pairs (map ty_view args))) refl s
  where
    by : (q : Bool) → list_any (bytes_eq name) (names_before pairs (map ty_view args)) ≡ q → r ≡ (if q then None else with_property name (ty_view b) m) → with_properties (drop (pairs * 2) (map ty_view args)) (names_before pairs (map ty_view args)) m ≡ and_then r (with_properties (drop ((pairs + 1) * 2) (map ty_view args)) (names_before (pairs + 1) (map ty_view args)))
    by true q g =
        ap (λ (xs : List Ty). with_properties xs (names_before pairs (map ty_view args)) m) (front args (pairs * 2) a b h e f)
        ∙ repeated (ty_view a) (ty_view b) name (drop (suc (suc (pairs * 2))) (map ty_view args)) (names_before pairs (map ty_view args)) m t q
        ∙ nothing_more (with_properties (drop ((pairs + 1) * 2) (map ty_view args)) (names_before (pairs + 1) (map ty_view args)))
        ∙ ap (λ (o : Option Fimath). and_then o (with_properties (drop ((pairs + 1) * 2) (map ty_view args)) (names_before (pairs + 1) (map ty_view args)))) (sym g)
    by false q g =
        ap (λ (xs : List Ty). with_properties xs (names_before pairs (map ty_view args)) m) (front args (pairs * 2) a b h e f)
        ∙ set_once (ty_view a) (ty_view b) name (drop (suc (suc (pairs * 2))) (map ty_view args)) (names_before pairs (map ty_view args)) m r t q g
        ∙ (λ i. and_then r (with_properties (sym (behind args pairs) i) (sym (name_of args pairs a name (let l : pairs * 2 < length args = omega (arith, h) in l) e t) i)))
