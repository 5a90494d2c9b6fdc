-- The names of each header of a source's tree are names.
use Rattle.std.proofs.Common.{◌≡◌, ℕ, Bool, true, false, zero, suc, List, [], ◌∷◌, refl, sym, subst, Option, Some, None}
use Rattle.std.specs.Prelude.{◌≢◌, map, slice_get, codes}
use Rattle.std.specs.List.{All, AllByRecursion}
use Rattle.std.proofs.lemmas.List.Elements.{All-from_recursion}
use Rattle.fic_base.specs.Names.{IsName}
use Rattle.mat_ast.specs.declared.tree.Ident.{Ident}
use Rattle.mat_ast.specs.Tree.{Fun}
use Rattle.mat_token.specs.declared.token.Kind.TheVariants as kind
use Rattle.mat_token.specs.declared.token.Token.{Token}
use Rattle.mat_token.specs.Lexeme.{Lexeme, lexemes_of}
use Rattle.mat_token.specs.Kept.{AreTokensOf}
use Rattle.mat_grammar.specs.Lang.{Lang}
use Rattle.mat_grammar.specs.Grammar.{ident, more_idents, idents, name_list, header_inputs, header_outputs, function, functions, file}
use Rattle.mat_grammar.proofs.Keeps.{Gives, Passes, from, both, before, behind, either, empty, none, perhaps, any_number, any_text, a_name, an_op, a_keyword, a_comma, a_break, an_end, a_separator, separators, keeps_block, passes_end, each_kept}

abbrev AreNames : List Ident → Type 0
AreNames names = AllByRecursion IsName (map (λ n. n.text) names)

named : (name : Ident) → Gives (ident name) (IsName name.text)
named name = a_name name.place name.text

more_named : {F : Lang} (names : List Ident) → Passes F → Gives (more_idents F names) (AreNames names)
more_named [] f = empty
more_named (name ∷ names) f = behind f (both (named name) (more_named names f))

-- a list of names has one at least
all_named : {F : Lang} (names : List Ident) → Passes F → Gives (idents F names) (AreNames names × (names ≢ []))
all_named [] f = none
all_named (name ∷ names) f = from (λ x. (x, λ e. absurd (cc))) (both (named name) (more_named names f))

bracket_named : (names : List Ident) → Gives (name_list names) (AreNames names × (names ≢ []))
bracket_named names = behind (an_op (codes "[")) (behind (any_number a_break) (before (all_named names a_comma) an_end))

inputs_named : (names : List Ident) → Gives (header_inputs names) (AreNames names)
inputs_named [] = perhaps (behind (an_op (codes "(")) (an_op (codes ")")))
inputs_named (name ∷ names) = behind (an_op (codes "(")) (before (from (λ x. x.0) (all_named (name ∷ names) (an_op (codes ",")))) (an_op (codes ")")))

outputs_named : (names : List Ident) → Gives (header_outputs names) (AreNames names × (names ≢ []))
outputs_named [] = bracket_named []
outputs_named (name ∷ []) = either (from (λ x. ((x, tt), λ e. absurd (cc))) (named name)) (bracket_named (name ∷ []))
outputs_named (name ∷ other ∷ names) = bracket_named (name ∷ other ∷ names)

-- the names of a header are names
record IsHeader (f : Fun) : Type 0 where
  name : IsName f.name.text
  inputs : AreNames f.inputs
  outputs : AreNames f.outputs
  some : f.outputs ≢ []

function_named : (ended : Bool) (f : Fun) → Gives (function ended f) (IsHeader f)
function_named ended f = from (λ x. record { name = x.1.0; inputs = x.1.1; outputs = x.0.0; some = x.0.1 })
    (behind (a_keyword (codes "function"))
    (before (both (outputs_named f.outputs) (behind (an_op (codes "=")) (both (named f.name) (inputs_named f.inputs))))
    (behind a_separator (behind (keeps_block f.body) (passes_end ended)))))

functions_named : (ended : Bool) (fs : List Fun) → Gives (functions ended fs) (AllByRecursion IsHeader fs)
functions_named ended [] = empty
functions_named ended (f ∷ fs) = both (function_named ended f) (functions_named ended fs)

header_at : (fs : List Fun) (k : ℕ) (f : Fun) → AllByRecursion IsHeader fs → slice_get fs k ≡ Some f → IsHeader f
header_at [] k f h e = absurd (cc)
header_at (g ∷ fs) zero f h e = let same : g ≡ f = cc in subst IsHeader same h.0
header_at (g ∷ fs) (suc k) f h e = header_at fs k f h.1 e

pub header_names : (bytes : List ℕ) (ts : List Token) (fs : List Fun) (k : ℕ) (f : Fun) → AreTokensOf bytes ts → file fs (lexemes_of bytes ts) []
    → slice_get fs k ≡ Some f
    → IsName f.name.text × All IsName (map (λ n. n.text) f.inputs) × All IsName (map (λ n. n.text) f.outputs) × (f.outputs ≢ [])
header_names bytes ts fs k f kept h e =
    let a = (behind separators (before (either (functions_named true fs) (functions_named false fs)) (any_text kind.Finish)) (lexemes_of bytes ts) [] h
    (each_kept bytes ts kept.short kept.each)).0 in
    let r = header_at fs k f a e in
    (r.name, All-from_recursion IsName (map (λ n. n.text) f.inputs) r.inputs, All-from_recursion IsName (map (λ n. n.text) f.outputs) r.outputs, r.some)
