-- Words of parameters, and the words behind them.
use Rattle.std.proofs.Common.{◌≡◌, ◌∙◌, ℕ, suc, List, [], ◌∷◌, ◌++◌, refl, ap, sym, append_assoc}
use Rattle.num_type.specs.declared.container.Container.TheVariants as container
use Rattle.c_tree.specs.declared.array_names.Array.{Array}
use Rattle.c_tree.specs.declared.tree.CArray.TheVariants as array
use Rattle.c_grammar.specs.declared.word.CKeyword.TheVariants as keyword
use Rattle.c_grammar.specs.declared.word.CSign.TheVariants as sign
use Rattle.c_grammar.specs.declared.word.CWordToken.TheVariants as word
use Rattle.c_grammar.specs.Sentence.{Words, array_words, input_words, output_words, parameter_words}

pub output_rest : (k : ℕ) (outs : List Array) (rest : Words) → output_words k outs rest ≡ output_words k outs [] ++ rest
output_rest k [] rest = refl
output_rest k (a ∷ outs) rest = ap (λ l. word.Sign sign.Comma ∷ array_words (array.Output k) a l) (output_rest (suc k) outs rest)

pub input_rest : (k : ℕ) (ins : List Array) (rest : Words) → input_words k ins rest ≡ input_words k ins [] ++ rest
input_rest k [] rest = refl
input_rest k (a ∷ ins) rest = ap (λ l. word.Sign sign.Comma ∷ word.Keyword keyword.Const ∷ array_words (array.Input k) a l) (input_rest (suc k) ins rest)

pub parameter_rest : (ins outs : List Array) (rest : Words) → parameter_words ins outs rest ≡ parameter_words ins outs [] ++ rest
parameter_rest [] [] rest = refl
parameter_rest [] (a ∷ outs) rest = ap (array_words (array.Output 0) a) (output_rest 1 outs rest)
parameter_rest (a ∷ ins) outs rest =
    ap (λ l. word.Keyword keyword.Const ∷ array_words (array.Input 0) a l)
    (ap (input_words 1 ins) (output_rest 0 outs rest) ∙ input_rest 1 ins (output_words 0 outs [] ++ rest)
    ∙ sym (append_assoc (input_words 1 ins []) (output_words 0 outs []) rest) ∙ ap (λ l. l ++ rest) (sym (input_rest 1 ins (output_words 0 outs []))))

pub output_step : (words : Words) (n m : ℕ) (a : Array) (more : List Array) → m ≡ suc n
    → (words ++ word.Sign sign.Comma ∷ array_words (array.Output n) a []) ++ output_words m more [] ≡ words ++ output_words n (a ∷ more) []
output_step words n m a more e =
    append_assoc words (word.Sign sign.Comma ∷ array_words (array.Output n) a []) (output_words m more [])
    ∙ ap (λ k. words ++ word.Sign sign.Comma ∷ array_words (array.Output n) a (output_words k more [])) e

pub input_step : (words : Words) (n m : ℕ) (a : Array) (more : List Array) → m ≡ suc n
    → (words ++ word.Sign sign.Comma ∷ word.Keyword keyword.Const ∷ array_words (array.Input n) a []) ++ input_words m more [] ≡ words ++ input_words n (a ∷ more) []
input_step words n m a more e =
    append_assoc words (word.Sign sign.Comma ∷ word.Keyword keyword.Const ∷ array_words (array.Input n) a []) (input_words m more [])
    ∙ ap (λ k. words ++ word.Sign sign.Comma ∷ word.Keyword keyword.Const ∷ array_words (array.Input n) a (input_words k more [])) e

pub after_input : (old first second third made : Words) (a : Array) (ins outs : List Array) → first ≡ old ++ word.Keyword keyword.Const ∷ []
    → second ≡ first ++ array_words (array.Input 0) a [] → third ≡ second ++ input_words 1 ins [] → made ≡ third ++ output_words 0 outs []
    → made ≡ old ++ parameter_words (a ∷ ins) outs []
after_input old first second third made a ins outs e f g h =
    h ∙ ap (λ l. l ++ output_words 0 outs []) (g ∙ ap (λ l. l ++ input_words 1 ins []) (f ∙ ap (λ l. l ++ array_words (array.Input 0) a []) e))
    ∙ append_assoc ((old ++ word.Keyword keyword.Const ∷ []) ++ array_words (array.Input 0) a []) (input_words 1 ins []) (output_words 0 outs [])
    ∙ append_assoc (old ++ word.Keyword keyword.Const ∷ []) (array_words (array.Input 0) a []) (input_words 1 ins [] ++ output_words 0 outs [])
    ∙ append_assoc old (word.Keyword keyword.Const ∷ []) (array_words (array.Input 0) a [] ++ (input_words 1 ins [] ++ output_words 0 outs []))
    ∙ ap (λ l. old ++ word.Keyword keyword.Const ∷ array_words (array.Input 0) a l) (sym (input_rest 1 ins (output_words 0 outs [])))

pub whole_header : (first second third fourth made : Words) (ins outs given results : List Array) → first ≡ word.Type container.I32 ∷ word.Function ∷ []
    → second ≡ first ++ word.Sign sign.Open ∷ [] → third ≡ second ++ parameter_words given results [] → given ≡ ins → results ≡ outs
    → fourth ≡ third ++ word.Sign sign.Close ∷ [] → made ≡ fourth ++ word.Sign sign.OpenBrace ∷ []
    → made ≡ word.Type container.I32 ∷ word.Function ∷ word.Sign sign.Open ∷ parameter_words ins outs (word.Sign sign.Close ∷ word.Sign sign.OpenBrace ∷ [])
whole_header first second third fourth made ins outs given results e f g i o h k =
    k ∙ ap (λ l. l ++ word.Sign sign.OpenBrace ∷ []) (h ∙ ap (λ l. l ++ word.Sign sign.Close ∷ [])
    (g ∙ ap (λ l. l ++ parameter_words given results []) (f ∙ ap (λ l. l ++ word.Sign sign.Open ∷ []) e)
    ∙ ap (λ l. word.Type container.I32 ∷ word.Function ∷ word.Sign sign.Open ∷ parameter_words l results []) i
    ∙ ap (λ l. word.Type container.I32 ∷ word.Function ∷ word.Sign sign.Open ∷ parameter_words ins l []) o))
    ∙ ap (λ l. word.Type container.I32 ∷ word.Function ∷ word.Sign sign.Open ∷ l)
    (append_assoc (parameter_words ins outs []) (word.Sign sign.Close ∷ []) (word.Sign sign.OpenBrace ∷ [])
    ∙ sym (parameter_rest ins outs (word.Sign sign.Close ∷ word.Sign sign.OpenBrace ∷ [])))
