-- What a body does, where other names are added to those of the file's functions: the same, where the names that stand in it are asked
-- with the same answers.
use Rattle.std.proofs.Common.{◌≡◌, refl, ap, ℕ, zero, suc, Bool, true, false, List, [], ◌∷◌, length}
use Rattle.std.specs.Prelude.{◌||◌, ◌&&◌, not, bytes_eq, Option, None, codes}
use Rattle.std.proofs.lemmas.Bool.{false≢true}
use Rattle.fic_base.specs.declared.place.Place.{Place}
use Rattle.mat_ast.specs.Tree.{Exp, Number, Words, Name, Apply, End, Unary, Binary, Post, Range, RangeBy, Paren, Matrix, Args, NoArgs, Whole, Item, Row, RowEnd, Cell, Rows, NoRows, RowOn, Sta, Assign, Store, Multi, IfOnly, IfElse, ForEach, WhileTrue, BreakOff, GoOn, Arms, NoArms, Arm, Block, Done, Next}
use Rattle.fi_eval.specs.Meaning.{names_of}
use Rattle.fi_eval.specs.Outcome.{Got, Gives}
use Rattle.fi_rules.specs.Value.{Val}
use Rattle.fi_meaning.specs.Calls.{Argument}
use Rattle.fi_meaning.specs.Environment.{Env, Flow}
use Rattle.fi_meaning.specs.Expressions.{Context, value, subscript_values, arguments, row_values, rows_values, is_listed, is_word}
use Rattle.fi_meaning.specs.Statements.{call_outputs, output_values, run, run_arms, run_block, loop_items, condition, is_called}
use Rattle.fi_meaning.specs.Reach.{in_expression, in_arguments, in_row, in_rows, in_statement, in_arms, in_block}
use Rattle.fi_meaning.proofs.Names.{Within, left, right, own, same_bytes}
use Rattle.fi_meaning.proofs.Alike.{Alike, alike, alike_gives, alike_bind, alike_both, alike_known, alike_if, alike_where, alike_behind, alike_then, alike_items, alike_turns}

abbrev pub Call : Type 0
Call = Place → List ℕ → List Val → ℕ → Got Place (List Val)

not_listed : (a b : Bool) → (a && not b) ≡ true → b ≡ false
not_listed true false h = refl
not_listed true true h = absurd (false≢true h)
not_listed false b h = absurd (false≢true h)

module _ (vars more functions : List (List ℕ)) (f g : Call) (Asked : List ℕ → Type 0)
    (listed : (name : List ℕ) → Asked name → is_listed name more ≡ is_listed name functions)
    (calls : (at : Place) (name : List ℕ) (vs : List Val) (wanted : ℕ) → is_listed name vars ≡ false → Asked name → Alike (f at name vs wanted) (g at name vs wanted)) where
  abbrev with_more : Bool → Context
  with_more b = record { variables = vars; functions = more; call = f; in_loop = b }

  abbrev without : Bool → Context
  without b = record { variables = vars; functions = functions; call = g; in_loop = b }

  same_word : (e : Exp) → Within Asked (in_expression e) → is_word vars more e ≡ is_word vars functions e
  unfolding is_word
  same_word (Name at name) w =
      ap (λ (b : Bool). (bytes_eq name (codes "true") || bytes_eq name (codes "false")) && not (is_listed name vars || b)) (listed name (w name (same_bytes name)))
  same_word (Number at text imaginary) w = refl
  same_word (Words at text) w = refl
  same_word (Apply at name opens args) w = refl
  same_word (End at) w = refl
  same_word (Unary at sign e) w = refl
  same_word (Binary at operator e d) w = refl
  same_word (Post at mark e) w = refl
  same_word (Range at first last) w = refl
  same_word (RangeBy at first step last) w = refl
  same_word (Paren at e) w = refl
  same_word (Matrix at rows) w = refl

  same_argument : (v : Val) (vs : List Argument) (b c : Bool) → b ≡ c → Alike {W = Place} (Gives (record { value = v; is_word = b } ∷ vs)) (Gives (record { value = v; is_word = c } ∷ vs))
  same_argument v vs b c e = alike_gives _ _ (ap (λ (w : Bool). (let a : Argument = record { value = v; is_word = w } in a) ∷ vs) e)

  mutual
    value_alike : (e : Exp) (b : Bool) (env : Env) (ends : Option ℕ) → Within Asked (in_expression e) → Alike (value e (with_more b) env ends) (value e (without b) env ends)
    value_alike (Number at text imaginary) b env ends w = alike
    value_alike (Words at text) b env ends w = alike
    value_alike (Name at name) b env ends w =
        let asked : Asked name = w name (same_bytes name) in
        alike_known _ (λ _. alike) (λ free. alike_if (listed name asked) (alike_bind (calls at name [] 1 free asked) (λ vs. alike)) alike)
    value_alike (Apply at name opens args) b env ends w =
        let asked : Asked name = own Asked name (in_arguments args) w in
        let inner : Within Asked (in_arguments args) = right Asked (λ other. bytes_eq other name) (in_arguments args) w in
        alike_known _
        (λ _. alike_bind (subscripts_alike args b env at _ 0 _ inner) (λ vs. alike))
        (λ free. alike_bind (arguments_alike args b env at ends inner) (λ vs. alike_if (listed name asked) (alike_bind (calls at name _ 1 free asked) (λ found. alike)) alike))
    value_alike (End at) b env ends w = alike
    value_alike (Unary at sign e) b env ends w = alike_bind (value_alike e b env ends w) (λ x. alike)
    value_alike (Binary at operator e d) b env ends w =
        alike_bind (value_alike e b env ends (left Asked (in_expression e) (in_expression d) w))
        (λ x. alike_behind at operator _ x (value_alike d b env ends (right Asked (in_expression e) (in_expression d) w)))
    value_alike (Post at mark e) b env ends w = alike_bind (value_alike e b env ends w) (λ x. alike)
    value_alike (Range at first last) b env ends w =
        alike_bind (value_alike first b env ends (left Asked (in_expression first) (in_expression last) w))
        (λ x. alike_bind (value_alike last b env ends (right Asked (in_expression first) (in_expression last) w)) (λ y. alike))
    value_alike (RangeBy at first step last) b env ends w =
        let rest : Within Asked (λ name. in_expression step name || in_expression last name) =
        right Asked (in_expression first) (λ name. in_expression step name || in_expression last name) w in
        alike_bind (value_alike first b env ends (left Asked (in_expression first) (λ name. in_expression step name || in_expression last name) w))
        (λ x. alike_bind (value_alike step b env ends (left Asked (in_expression step) (in_expression last) rest))
        (λ s. alike_bind (value_alike last b env ends (right Asked (in_expression step) (in_expression last) rest)) (λ y. alike)))
    value_alike (Paren at e) b env ends w = value_alike e b env ends w
    value_alike (Matrix at rows) b env ends w = alike_bind (rows_alike rows b env ends w) (λ vs. alike)

    subscripts_alike : (args : Args) (b : Bool) (env : Env) (at : Place) (v : Option Val) (k many : ℕ) → Within Asked (in_arguments args) → Alike (subscript_values args (with_more b) env at v k many) (subscript_values args (without b) env at v k many)
    subscripts_alike NoArgs b env at v k many w = alike
    subscripts_alike (Whole more) b env at v k many w = alike_bind (subscripts_alike more b env at v (suc k) many w) (λ vs. alike)
    subscripts_alike (Item e more) b env at v k many w =
        alike_bind (value_alike e b env _ (left Asked (in_expression e) (in_arguments more) w))
        (λ x. alike_bind (subscripts_alike more b env at v (suc k) many (right Asked (in_expression e) (in_arguments more) w)) (λ vs. alike))

    arguments_alike : (args : Args) (b : Bool) (env : Env) (at : Place) (ends : Option ℕ) → Within Asked (in_arguments args) → Alike (arguments args (with_more b) env at ends) (arguments args (without b) env at ends)
    arguments_alike NoArgs b env at ends w = alike
    arguments_alike (Whole more) b env at ends w = alike_bind (arguments_alike more b env at ends w) (λ vs. alike)
    arguments_alike (Item e more) b env at ends w =
        alike_bind (value_alike e b env ends (left Asked (in_expression e) (in_arguments more) w))
        (λ v. alike_bind (arguments_alike more b env at ends (right Asked (in_expression e) (in_arguments more) w))
        (λ vs. same_argument v vs _ _ (same_word e (left Asked (in_expression e) (in_arguments more) w))))

    row_alike : (r : Row) (b : Bool) (env : Env) (ends : Option ℕ) → Within Asked (in_row r) → Alike (row_values r (with_more b) env ends) (row_values r (without b) env ends)
    row_alike RowEnd b env ends w = alike
    row_alike (Cell e more) b env ends w =
        alike_bind (value_alike e b env ends (left Asked (in_expression e) (in_row more) w))
        (λ v. alike_bind (row_alike more b env ends (right Asked (in_expression e) (in_row more) w)) (λ vs. alike))

    rows_alike : (rows : Rows) (b : Bool) (env : Env) (ends : Option ℕ) → Within Asked (in_rows rows) → Alike (rows_values rows (with_more b) env ends) (rows_values rows (without b) env ends)
    rows_alike NoRows b env ends w = alike
    rows_alike (RowOn r more) b env ends w =
        alike_bind (row_alike r b env ends (left Asked (in_row r) (in_rows more) w))
        (λ vs. alike_bind (rows_alike more b env ends (right Asked (in_row r) (in_rows more) w)) (λ rest. alike))

  same_called : (b : Bool) (name : List ℕ) → Asked name → is_called (with_more b) name ≡ is_called (without b) name
  same_called b name asked = ap (λ (t : Bool). t && not (is_listed name vars)) (listed name asked)

  call_alike : (e : Exp) (b : Bool) (env : Env) (wanted : ℕ) → Within Asked (in_expression e) → Alike (call_outputs e (with_more b) env wanted) (call_outputs e (without b) env wanted)
  unfolding call_outputs
  call_alike (Name at name) b env wanted w =
      let asked : Asked name = w name (same_bytes name) in
      alike_where (same_called b name asked) (λ called. calls at name [] wanted (not_listed (is_listed name functions) (is_listed name vars) called) asked) alike
  call_alike (Apply at name opens args) b env wanted w =
      let asked : Asked name = own Asked name (in_arguments args) w in
      let inner : Within Asked (in_arguments args) = right Asked (λ other. bytes_eq other name) (in_arguments args) w in
      alike_known _
      (λ _. alike_bind (subscripts_alike args b env at _ 0 _ inner) (λ vs. alike))
      (λ free. alike_bind (arguments_alike args b env at None inner) (λ vs. alike_if (listed name asked) (calls at name _ wanted free asked) alike))
  call_alike (Number at text imaginary) b env wanted w = alike
  call_alike (Words at text) b env wanted w = alike
  call_alike (End at) b env wanted w = alike
  call_alike (Unary at sign e) b env wanted w = alike
  call_alike (Binary at operator e d) b env wanted w = alike
  call_alike (Post at mark e) b env wanted w = alike
  call_alike (Range at first last) b env wanted w = alike
  call_alike (RangeBy at first step last) b env wanted w = alike
  call_alike (Paren at e) b env wanted w = alike
  call_alike (Matrix at rows) b env wanted w = alike

  outputs_alike : (e : Exp) (b : Bool) (env : Env) (wanted : ℕ) → Within Asked (in_expression e) → Alike (output_values e (with_more b) env wanted) (output_values e (without b) env wanted)
  unfolding output_values
  outputs_alike e b env zero w = call_alike e b env zero w
  outputs_alike e b env (suc zero) w = alike_bind (value_alike e b env None w) (λ v. alike)
  outputs_alike e b env (suc (suc k)) w = call_alike e b env (suc (suc k)) w

  condition_alike : (e : Exp) (b : Bool) (env : Env) → Within Asked (in_expression e) → Alike (condition e (with_more b) env) (condition e (without b) env)
  condition_alike e b env w = alike_bind (value_alike e b env None w) (λ v. alike)

  loop_alike : (e : Exp) (to : Place) (b : Bool) (env : Env) → Within Asked (in_expression e) → Alike (loop_items e to (with_more b) env) (loop_items e to (without b) env)
  unfolding loop_items
  loop_alike (Range at first last) to b env w =
      alike_bind (value_alike first b env None (left Asked (in_expression first) (in_expression last) w))
      (λ x. alike_bind (value_alike last b env None (right Asked (in_expression first) (in_expression last) w)) (λ y. alike))
  loop_alike (RangeBy at first step last) to b env w =
      let rest : Within Asked (λ name. in_expression step name || in_expression last name) =
      right Asked (in_expression first) (λ name. in_expression step name || in_expression last name) w in
      alike_bind (value_alike first b env None (left Asked (in_expression first) (λ name. in_expression step name || in_expression last name) w))
      (λ x. alike_bind (value_alike step b env None (left Asked (in_expression step) (in_expression last) rest))
      (λ s. alike_bind (value_alike last b env None (right Asked (in_expression step) (in_expression last) rest)) (λ y. alike)))
  loop_alike (Number at text imaginary) to b env w = alike
  loop_alike (Words at text) to b env w = alike
  loop_alike (Name at name) to b env w = alike
  loop_alike (Apply at name opens args) to b env w = alike
  loop_alike (End at) to b env w = alike
  loop_alike (Unary at sign e) to b env w = alike
  loop_alike (Binary at operator e d) to b env w = alike
  loop_alike (Post at mark e) to b env w = alike
  loop_alike (Paren at e) to b env w = alike
  loop_alike (Matrix at rows) to b env w = alike

  mutual
    run_alike : (s : Sta) (b : Bool) (n : ℕ) (env : Env) → Within Asked (in_statement s) → Alike (run s (with_more b) n env) (run s (without b) n env)
    run_alike (Assign to e) b n env w = alike_bind (value_alike e b env None (right Asked (λ name. bytes_eq name to.text) (in_expression e) w)) (λ v. alike)
    run_alike (Store to opens args e) b n env w =
        let rest : Within Asked (λ name. in_arguments args name || in_expression e name) =
        right Asked (λ name. bytes_eq name to.text) (λ name. in_arguments args name || in_expression e name) w in
        alike_bind (value_alike e b env None (right Asked (in_arguments args) (in_expression e) rest))
        (λ v. alike_bind alike (λ old. alike_bind (subscripts_alike args b env to.place _ 0 _ (left Asked (in_arguments args) (in_expression e) rest)) (λ ks. alike)))
    run_alike (Multi targets e) b n env w =
        alike_bind (outputs_alike e b env (length targets) (right Asked (λ name. is_listed name (names_of targets)) (in_expression e) w)) (λ vs. alike)
    run_alike (IfOnly at arms) b n env w = arms_alike arms b n env w alike
    run_alike (IfElse at arms other) b n env w =
        arms_alike arms b n env (left Asked (in_arms arms) (in_block other) w) (block_alike other b n env (right Asked (in_arms arms) (in_block other) w))
    run_alike (ForEach at to range body) b n env w =
        let rest : Within Asked (λ name. in_expression range name || in_block body name) =
        right Asked (λ name. bytes_eq name to.text) (λ name. in_expression range name || in_block body name) w in
        alike_bind (loop_alike range to.place b env (left Asked (in_expression range) (in_block body) rest))
        (λ zs. alike_bind (alike_items zs _ _ (λ z inner. block_alike body true n _ (right Asked (in_expression range) (in_block body) rest)) env) (λ flow. alike))
    run_alike (WhileTrue at test body) b n env w =
        alike_turns n _ _ _ _ (λ inner. condition_alike test b inner (left Asked (in_expression test) (in_block body) w))
        (λ inner. block_alike body true n inner (right Asked (in_expression test) (in_block body) w)) env
    run_alike (BreakOff at) b n env w = alike
    run_alike (GoOn at) b n env w = alike

    arms_alike : (arms : Arms) (b : Bool) (n : ℕ) (env : Env) → Within Asked (in_arms arms) → {r s : Got Place Flow} → Alike r s → Alike (run_arms arms (with_more b) n env r) (run_arms arms (without b) n env s)
    arms_alike NoArms b n env w h = h
    arms_alike (Arm test body more) b n env w h =
        let rest : Within Asked (λ name. in_block body name || in_arms more name) =
        right Asked (in_expression test) (λ name. in_block body name || in_arms more name) w in
        alike_bind (condition_alike test b env (left Asked (in_expression test) (λ name. in_block body name || in_arms more name) w))
        (λ t. alike_both t (block_alike body b n env (left Asked (in_block body) (in_arms more) rest))
        (arms_alike more b n env (right Asked (in_block body) (in_arms more) rest) h))

    pub block_alike : (d : Block) (b : Bool) (n : ℕ) (env : Env) → Within Asked (in_block d) → Alike (run_block d (with_more b) n env) (run_block d (without b) n env)
    block_alike Done b n env w = alike
    block_alike (Next s more) b n env w =
        alike_bind (run_alike s b n env (left Asked (in_statement s) (in_block more) w))
        (λ flow. alike_then flow (λ later. block_alike more b n later (right Asked (in_statement s) (in_block more) w)))
