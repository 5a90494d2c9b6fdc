-- The layout of a whole program is a text of it.
use Rattle.std.proofs.Common.{◌≡◌, ℕ, zero, suc, ◌+◌, true, false, List, [], ◌∷◌, ◌++◌, codes, decimal, refl, sym, subst}
use Rattle.std.specs.Prelude.{flat_map}
use Rattle.c_tree.specs.declared.tree.CWord.{CWord}
use Rattle.c_tree.specs.declared.tree.CWord.TheVariants.{I64}
use Rattle.c_tree.specs.declared.array_names.Array.{Array}
use Rattle.c_tree.specs.Tree.{Program}
use Rattle.c_tree.specs.Names.{arrays_of}
use Rattle.c_tree.specs.Texts.{Text, word_text, container_text, var_text, macro_text, function_name}
use Rattle.c_tree.specs.Spelling.{Texts, spell_constant, spell_array, spell_outputs, spell_inputs, spell_parameters, spell_locals, spell_start, spell_words, spell_counters, spell_declarations, spell_header, spelled}
use Rattle.c_tree.specs.Layout.{constant_text, block_text, declared_text, parameters_text, is_none, function_front, header_text, local_text, zero_text, start_line, words_text, counters_text, declarations_text, function_text, layout}
use Rattle.c_tree.specs.CText.{is_word, AreTokens, IsText}
use Rattle.c_tree.specs.WellFormed.{IsWellFormed, scope_of}
use Rattle.c_tree.proofs.Lexing.{Spaced, laid, joined_flat, direct, token, single, word, number, decimal_name_bytes}
use Rattle.c_tree.proofs.Declared.{AreWords, AllWords, program_words}
use Rattle.c_tree.proofs.Laid.{blank, newline, opens, closes, semicolon, begins, ends, takes, word_is_word, container_is_word, constant_laid, block_laid}

array_laid : (a : Array) → is_word a.name ≡ true → (bytes : List ℕ) → {texts : Texts} → Spaced texts bytes → Spaced (spell_array a texts) (declared_text a ++ bytes)
array_laid a h bytes x =
    laid (container_text a.container) (codes " " ∷ a.name ∷ codes "[" ∷ decimal a.extent ∷ codes "]" ∷ []) bytes
    (word (container_text a.container) (container_is_word a.container) refl (blank (word a.name h refl (single 91 refl (λ b. refl)
    (number a.extent refl (single 93 refl (λ b. refl) x))))))

outputs_laid : (arrays : List Array) → AreWords arrays → (bytes : List ℕ) → {texts : Texts} → Spaced texts bytes → Spaced (spell_outputs arrays texts) (parameters_text false [] arrays ++ bytes)
outputs_laid [] h bytes x = x
outputs_laid (a ∷ more) h bytes x =
    laid (codes ", ") ([] ∷ declared_text a ∷ parameters_text false [] more ∷ []) bytes
    (single 44 refl (λ b. refl) (blank (array_laid a h.0 _ (outputs_laid more h.1 bytes x))))

inputs_laid : (arrays : List Array) → AreWords arrays → (bytes : List ℕ) → {texts : Texts} → Spaced texts bytes → Spaced (spell_inputs arrays texts) (parameters_text false (codes "const ") arrays ++ bytes)
inputs_laid [] h bytes x = x
inputs_laid (a ∷ more) h bytes x =
    laid (codes ", ") (codes "const " ∷ declared_text a ∷ parameters_text false (codes "const ") more ∷ []) bytes
    (single 44 refl (λ b. refl) (blank (word (codes "const") refl refl (blank (array_laid a h.0 _ (inputs_laid more h.1 bytes x))))))

parameters_laid : (inputs outputs : List Array) → AreWords inputs → AreWords outputs → (bytes : List ℕ) → {texts : Texts} → Spaced texts bytes → Spaced (spell_parameters inputs outputs texts) (parameters_text true (codes "const ") inputs ++ (parameters_text (is_none inputs) [] outputs ++ bytes))
parameters_laid [] [] h k bytes x = x
parameters_laid [] (a ∷ outputs) h k bytes x =
    laid [] ([] ∷ declared_text a ∷ parameters_text false [] outputs ∷ []) bytes (array_laid a k.0 _ (outputs_laid outputs k.1 bytes x))
parameters_laid (a ∷ inputs) outputs h k bytes x =
    laid [] (codes "const " ∷ declared_text a ∷ parameters_text false (codes "const ") inputs ∷ []) _
    (word (codes "const") refl refl (blank (array_laid a h.0 _ (inputs_laid inputs h.1 _ (outputs_laid outputs k bytes x)))))

locals_laid : (arrays : List Array) → AreWords arrays → (bytes : List ℕ) → {texts : Texts} → Spaced texts bytes → Spaced (spell_locals arrays texts) (flat_map local_text arrays ++ bytes)
locals_laid [] h bytes x = x
locals_laid (a ∷ more) h bytes x =
    laid (local_text a) (flat_map local_text more ∷ []) bytes
    (laid (codes "  ") (declared_text a ∷ codes " = {0};\n" ∷ []) _ (blank (blank (array_laid a h.0 _ (blank (takes (begins
    (direct (token (codes "0") refl refl (ends (semicolon (newline (locals_laid more h.1 bytes x)))))))))))))

zero_constant_laid : (w : CWord) → {texts : Texts} → {bytes : List ℕ} → Spaced texts bytes → Spaced (spell_constant (macro_text w) 0 texts) (constant_text w 0 ++ bytes)
zero_constant_laid w = constant_laid w 0

start_laid : (w : CWord) (name : Text) → is_word name ≡ true → (bytes : List ℕ) → {texts : Texts} → Spaced texts bytes → Spaced (spell_start w name texts) (start_line w name ++ bytes)
unfolding zero_text
start_laid w name h bytes x =
    laid (codes "  ") (word_text w ∷ codes " " ∷ name ∷ (codes " = " ++ constant_text w 0 ++ codes ";\n") ∷ []) bytes
    (blank (blank (word (word_text w) (word_is_word w) refl (blank (word name h refl
    (laid (codes " = ") (constant_text w 0 ∷ codes ";\n" ∷ []) bytes (blank (takes (zero_constant_laid w (semicolon (newline x)))))))))))

words_laid : (k : ℕ) (words : List CWord) (bytes : List ℕ) → {texts : Texts} → Spaced texts bytes → Spaced (spell_words k words texts) (words_text k words ++ bytes)
words_laid k [] bytes x = x
words_laid k (w ∷ more) bytes x =
    laid (start_line w (var_text k)) (words_text (k + 1) more ∷ []) bytes
    (start_laid w (var_text k) (decimal_name_bytes k) _ (words_laid (k + 1) more bytes x))

counters_laid : (letter : Text) → ((k : ℕ) → is_word (letter ++ decimal k) ≡ true) → (k n : ℕ) (bytes : List ℕ) → {texts : Texts} → Spaced texts bytes → Spaced (spell_counters letter k n texts) (counters_text letter k n ++ bytes)
counters_laid letter h k zero bytes x = x
counters_laid letter h k (suc n) bytes x =
    laid (start_line I64 (letter ++ decimal k)) (counters_text letter (k + 1) n ∷ []) bytes
    (start_laid I64 (letter ++ decimal k) (h k) _ (counters_laid letter h (k + 1) n bytes x))

declarations_laid : (p : Program) → AllWords (arrays_of p) → (bytes : List ℕ) → {texts : Texts} → Spaced texts bytes → Spaced (spell_declarations p texts) (declarations_text p ++ bytes)
declarations_laid p words bytes x =
    laid (flat_map local_text (arrays_of p).locals) (words_text 0 p.words ∷ counters_text (codes "g") 0 p.groups ∷ counters_text (codes "b") 0 p.barriers ∷ counters_text (codes "k") 0 p.sources ∷ counters_text (codes "w") 0 p.turns ∷ []) bytes
    (locals_laid (arrays_of p).locals words.locals _ (words_laid 0 p.words _
    (counters_laid (codes "g") decimal_name_bytes 0 p.groups _ (counters_laid (codes "b") decimal_name_bytes 0 p.barriers _
    (counters_laid (codes "k") decimal_name_bytes 0 p.sources _ (counters_laid (codes "w") decimal_name_bytes 0 p.turns bytes x))))))

-- what stands behind the function's first token
header_laid : (p : Program) → IsWellFormed p → AllWords (arrays_of p) → (bytes : List ℕ) → {texts : Texts} → Spaced texts bytes → AreTokens (spell_header p texts) (header_text p ++ bytes)
unfolding function_front
header_laid p h words bytes {texts} x =
    let all = arrays_of p in
    let name = function_name p.interface.entry in
    let inputs = parameters_text true (codes "const ") all.inputs in
    let outputs = parameters_text (is_none all.inputs) [] all.outputs in
    subst (AreTokens (spell_header p texts)) (sym (joined_flat (codes "int32_t ") (name ∷ codes "(" ∷ inputs ∷ outputs ∷ codes ") {\n" ∷ []) bytes))
    (token (codes "int32_t") refl refl (blank (word name h.interface.entry.name_bytes refl (opens
    (parameters_laid all.inputs all.outputs words.inputs words.outputs _ (closes (blank (begins (newline x)))))))))

function_laid : (p : Program) → IsWellFormed p → AreTokens (spelled p) (function_text p)
function_laid p h =
    let words = program_words p h in
    let body = block_text (arrays_of p) 1 p.body in
    let last = ends (newline (direct refl)) in
    subst (AreTokens (spelled p)) (sym (joined_flat (header_text p) (declarations_text p ∷ body ∷ []) (codes "}\n")))
    (header_laid p h words _ (declarations_laid p words _ (block_laid (scope_of p) words false 1 p.body h.statements last)))

pub layout_is_text : (p : Program) → IsWellFormed p → IsText p (layout p)
layout_is_text p h = record {
  function = function_text p;
  whole = refl;
  tokens = function_laid p h;
}
