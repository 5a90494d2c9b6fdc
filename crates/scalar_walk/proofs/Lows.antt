-- Answers of the code as what is lowered.
use Rattle.std.proofs.Common.{◌≡◌, ℕ, suc, ◌+◌, ◌≤◌, List, [], ◌∷◌, drop, Bool, true, false, Option, Some, sym, ap, ◌∙◌, subst, arith, if◌then◌else◌}
use Rattle.std.specs.Prelude.{option_map, Result, Ok, Err, IfOk, bytes_eq}
use Rattle.std.specs.Borrow.{Bor}
use Rattle.fic_base.specs.declared.refusal.Refusal.{Refusal}
use Rattle.fic_base.specs.declared.place.Place.{Place}
use Rattle.num_type.specs.declared.memory.Stop.{Stop}
use Rattle.num_type.specs.Types.{NumericType}
use Rattle.fi_rules.specs.Pairs.{work_of}
use Rattle.fi_eval.specs.Meaning.{Context}
use Rattle.mat_ast.specs.declared.tree.BinOp.{BinOp}
use Rattle.mat_ast.specs.declared.tree.UnOp.{UnOp}
use Rattle.mat_ast.specs.declared.tree.Ident.{Ident}
use Rattle.mat_ast.specs.declared.tree.Stmt.{Stmt}
use Rattle.mat_ast.specs.View.{stmt_view, block_view}
use Rattle.mat_ast.specs.Tree as ast
use Rattle.c_tree.specs.Tree.{Program}
use Rattle.lower_scalar.specs.Part.{reach}
use Rattle.scalar_program.specs.Lowered.{Operand, Held, Emitted, Names, Low, Passed, Behind, IsLowered, AreLowered, IsRead, IsCalled, IsPaired, IsSigned, IsStaLowered, IsBlockLowered, IsFunctionLowered, outputs_lowered, input_held, inputs_from, no_names, nothing_emitted, nothing_passed, program_of, read}
use Rattle.scalar_program.specs.NameMaps.{with_type}
use Rattle.scalar_walk.specs.declared.operand.Held as code
use Rattle.scalar_walk.specs.declared.emitted.Emitted as code_emitted
use Rattle.scalar_walk.specs.View.{held_view, emitted_view, low_view, AreBelow}

-- a variable that has a value
pub read_low : (found : Option (Bor code.Held)) (names : Names) (name : List ℕ) (x : Bor code.Held) (h : code.Held) (em later : code_emitted.Emitted) → found ≡ Some x → option_map (λ b. held_view b.now) found ≡ names name → held_view h ≡ held_view x.now → emitted_view later ≡ emitted_view em → IsRead names name (emitted_view em) (low_view h later)
read_low found names name x h em later f n c e = record {
  held = held_view h;
  here = sym n ∙ ap (option_map (λ b. held_view b.now)) f ∙ ap Some (sym c);
  is = (λ i. record { held = held_view h; emitted = e i });
}

pub read_below : (found : Option (Bor code.Held)) (names : Names) (name : List ℕ) (x : Bor code.Held) (h : code.Held) (n : ℕ) → AreBelow names n → found ≡ Some x → option_map (λ b. held_view b.now) found ≡ names name → held_view h ≡ held_view x.now → reach (read (held_view h).spot) ≤ n
read_below found names name x h n below f e c = below name (held_view h) (sym e ∙ ap (option_map (λ b. held_view b.now)) f ∙ ap Some (sym c))

-- a binary operator behind its operands
pub binary_low : (e : ast.Exp) (cx : Context) (at : Place) (operator : BinOp) (a b : ast.Exp) (names : Names) (em : Emitted) (x y : Low) (r : Result code.Held (Stop Refusal)) (later : code_emitted.Emitted) → e ≡ ast.Binary at operator a b → IsLowered a cx names em x → IsLowered b cx names x.emitted y → IfOk r (λ h. IsPaired (work_of operator) x.held y.held y.emitted (low_view h later)) → IfOk r (λ h. IsLowered e cx names em (low_view h later))
binary_low e cx at operator a b names em x y (Ok o) later h p q s = subst (λ t. IsLowered t cx names em (low_view o later)) (sym h) (x, p, y, q, s)
binary_low e cx at operator a b names em x y (Err s) later h p q k = tt

-- a sign before its operand
pub sign_low : (sign : UnOp) (cx : Context) (at : Place) (e : ast.Exp) (names : Names) (em : Emitted) (x : Low) (r : Result code.Held (Stop Refusal)) (later : code_emitted.Emitted) → IsLowered e cx names em x → IfOk r (λ h. IsSigned sign x.held x.emitted (low_view h later)) → IfOk r (λ h. IsLowered (ast.Unary at sign e) cx names em (low_view h later))
sign_low sign cx at e names em x (Ok o) later p s = (x, p, s)
sign_low sign cx at e names em x (Err s) later p k = tt

-- a call behind its arguments
pub call_low : (cx : Context) (at : Place) (name : List ℕ) (opens : Place) (args : ast.Args) (names : Names) (em : Emitted) (p : Passed) (r : Result code.Held (Stop Refusal)) (later : code_emitted.Emitted) → IfOk r (λ h. AreLowered args cx names (nothing_passed em) p) → IfOk r (λ h. IsCalled cx name p.types p.spots p.emitted (low_view h later)) → IfOk r (λ h. IsLowered (ast.Apply at name opens args) cx names em (low_view h later))
call_low cx at name opens args names em p (Ok o) later a s = (p, a, s)
call_low cx at name opens args names em p (Err s) later a k = tt

-- ---- what stands below the next variable

pub below_more : (names : Names) (m n : ℕ) → m ≤ n → AreBelow names m → AreBelow names n
below_more names m n h below name o e = omega (arith, h, below name o e)

pub below_with : (names : Names) (to : List ℕ) (x : Held) (n : ℕ) → AreBelow names n → reach (read x.spot) ≤ n → AreBelow (with_type names to x) n
below_with names to x n below under name o e = by (bytes_eq to name) e
  where
    by : (b : Bool) → (if b then Some x else names name) ≡ Some o → reach (read o.spot) ≤ n
    by true e = let same : x ≡ o = cc in subst (λ (p : Held). reach (read p.spot) ≤ n) same under
    by false e = below name o e

pub inputs_below : (k : ℕ) (is : List Ident) (ts : List NumericType) (names : Names) → AreBelow names 0 → AreBelow (inputs_from k is ts names) 0
inputs_below k [] ts names h = h
inputs_below k (i ∷ is) [] names h = h
inputs_below k (i ∷ is) (t ∷ ts) names h = inputs_below (suc k) is ts (with_type names i.text (input_held k t)) (below_with names i.text (input_held k t) 0 h (omega arith))

pub none_below : AreBelow no_names 0
none_below name o e = absurd (cc)

-- ---- statements

-- an assignment of what was lowered
pub assign_low : (e : ast.Exp) (cx : Context) (em : Emitted) (to : Ident) (x : Low) (names later : Names) (bytes : List ℕ) → IsLowered e cx names em x → later ≡ with_type names bytes x.held → bytes ≡ to.text → IsStaLowered (ast.Assign to e) cx names em (record { names = later; emitted = x.emitted })
assign_low e cx em to x names later bytes f l b = (x, f, (λ i. record { names = (l ∙ ap (λ t. with_type names t x.held) b) i; emitted = x.emitted }))

-- a block from a statement on
pub block_low : (k : ℕ) (b : List Stmt) (s : Stmt) (cx : Context) (names : Names) (em : Emitted) (behind end : Behind) → drop k b ≡ s ∷ drop (k + 1) b → IsStaLowered (stmt_view s) cx names em behind → IsBlockLowered (block_view (drop (k + 1) b)) cx behind.names behind.emitted end → IsBlockLowered (block_view (drop k b)) cx names em end
block_low k b s cx names em behind end p h g = subst (λ l. IsBlockLowered (block_view l) cx names em end) (sym p) (behind, h, g)

-- a function whose parts were lowered
pub function_low : (cx : Context) (f : ast.Fun) (ts : List NumericType) (none names : Names) (nothing : Emitted) (behind : Behind) (outs : List Operand) (p : Program) → none ≡ no_names → names ≡ inputs_from 0 f.inputs ts none → nothing ≡ nothing_emitted → IsBlockLowered f.body cx names nothing behind → outputs_lowered f.outputs behind.names ≡ Some outs → p ≡ program_of f ts behind.emitted outs → IsFunctionLowered cx f ts p
function_low cx f ts none names nothing behind outs p n i e b o h =
    let start : names ≡ inputs_from 0 f.inputs ts no_names = i ∙ ap (inputs_from 0 f.inputs ts) n in
    record { behind = behind; body = subst (λ m. IsBlockLowered f.body cx m nothing_emitted behind) start (subst (λ m. IsBlockLowered f.body cx names m behind) e b); outs = outs; outputs = o; is = sym h }
