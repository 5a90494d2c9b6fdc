-- What each token is to the grammar.
use Rattle.std.specs.Prelude.{ℕ, Bool, true, false, ◌&&◌, ◌||◌, nat_eq, List, [], ◌∷◌, codes, if◌then◌else◌, Option, Some, None}
use Rattle.std.specs.Option.{option_map}
use Rattle.fic_base.specs.declared.place.Place.{Place}
use Rattle.mat_ast.specs.declared.tree.UnOp.{UnOp}
use Rattle.mat_ast.specs.declared.tree.UnOp.TheVariants as un
use Rattle.mat_ast.specs.declared.tree.BinOp.{BinOp}
use Rattle.mat_ast.specs.declared.tree.BinOp.TheVariants as bin
use Rattle.mat_ast.specs.declared.tree.PostOp.TheVariants as post
use Rattle.mat_token.specs.declared.token.Kind.{Kind}
use Rattle.mat_token.specs.declared.token.Kind.TheVariants as kind
use Rattle.mat_token.specs.Lexeme.{Lexeme}
use Rattle.mat_grammar.specs.Spelling.{binary_text, post_text, has_unit}
use Rattle.mat_grammar.specs.declared.word.Word.{Word}
use Rattle.mat_grammar.specs.declared.word.Word.TheVariants as word

-- the kind of its token
abbrev pub kind_of : Word → Kind
kind_of word.Name = kind.Name
kind_of word.Number = kind.Number
kind_of word.Quoted = kind.Words
kind_of word.Newline = kind.Newline
kind_of word.Separator = kind.Separator
kind_of word.Finish = kind.Finish
kind_of word.Function = kind.Keyword
kind_of word.End = kind.Keyword
kind_of word.If = kind.Keyword
kind_of word.ElseIf = kind.Keyword
kind_of word.Else = kind.Keyword
kind_of word.For = kind.Keyword
kind_of word.While = kind.Keyword
kind_of word.Break = kind.Keyword
kind_of word.Continue = kind.Keyword
kind_of word.Reserved = kind.Keyword
kind_of _ = kind.Op

-- how it is spelled, where its token has this text of its own
abbrev pub spelling : Word → List ℕ → List ℕ
spelling (word.Infix op) own = binary_text op
spelling word.Tilde own = codes "~"
spelling (word.Turn mark) own = post_text mark
spelling word.Equal own = codes "="
spelling word.Colon own = codes ":"
spelling word.Comma own = codes ","
spelling word.Semicolon own = codes ";"
spelling word.Open own = codes "("
spelling word.Close own = codes ")"
spelling word.OpenSquare own = codes "["
spelling word.CloseSquare own = codes "]"
spelling word.Function own = codes "function"
spelling word.End own = codes "end"
spelling word.If own = codes "if"
spelling word.ElseIf own = codes "elseif"
spelling word.Else own = codes "else"
spelling word.For own = codes "for"
spelling word.While own = codes "while"
spelling word.Break own = codes "break"
spelling word.Continue own = codes "continue"
spelling _ own = own

-- its token
abbrev pub lexeme : Place → Word → List ℕ → Lexeme
lexeme at word own = record { place = at; kind = kind_of word; text = spelling word own }

-- whether two texts are the same
abbrev pub same_text : List ℕ → List ℕ → Bool
same_text [] [] = true
same_text (a ∷ more) (b ∷ rest) = nat_eq a b && same_text more rest
same_text _ _ = false

-- the first of the words that is spelled so, or else another one
abbrev pub looked_up : List Word → Word → List ℕ → Word
looked_up [] other text = other
looked_up (w ∷ ws) other text = if same_text (spelling w []) text then w else looked_up ws other text

-- the operators, brackets and marks
abbrev pub operators : List Word
operators =
    word.Infix bin.OrOr ∷ word.Infix bin.AndAnd ∷ word.Infix bin.Or ∷ word.Infix bin.And
    ∷ word.Infix bin.Eq ∷ word.Infix bin.Ne ∷ word.Infix bin.Lt ∷ word.Infix bin.Le ∷ word.Infix bin.Gt ∷ word.Infix bin.Ge
    ∷ word.Infix bin.Add ∷ word.Infix bin.Sub ∷ word.Infix bin.Mul ∷ word.Infix bin.ElemMul ∷ word.Infix bin.Div ∷ word.Infix bin.ElemDiv
    ∷ word.Infix bin.LeftDiv ∷ word.Infix bin.ElemLeftDiv ∷ word.Infix bin.Pow ∷ word.Infix bin.ElemPow
    ∷ word.Tilde ∷ word.Turn post.CTranspose ∷ word.Turn post.Transpose
    ∷ word.Equal ∷ word.Colon ∷ word.Comma ∷ word.Semicolon ∷ word.Open ∷ word.Close ∷ word.OpenSquare ∷ word.CloseSquare ∷ []

-- the keywords
abbrev pub keywords : List Word
keywords = word.Function ∷ word.End ∷ word.If ∷ word.ElseIf ∷ word.Else ∷ word.For ∷ word.While ∷ word.Break ∷ word.Continue ∷ []

-- what a token of this kind and text is
abbrev pub word_of : Kind → List ℕ → Word
word_of kind.Name text = word.Name
word_of kind.Number text = word.Number
word_of kind.Words text = word.Quoted
word_of kind.Newline text = word.Newline
word_of kind.Separator text = word.Separator
word_of kind.Finish text = word.Finish
word_of kind.Op text = looked_up operators word.OtherOp text
word_of kind.Keyword text = looked_up keywords word.Reserved text

-- the sign that an operator is too
abbrev pub sign_of : BinOp → Option UnOp
sign_of bin.Add = Some un.Plus
sign_of bin.Sub = Some un.Minus
sign_of _ = None

-- a list without its last element
abbrev pub front_of : List ℕ → List ℕ
front_of [] = []
front_of (c ∷ []) = []
front_of (c ∷ d ∷ cs) = c ∷ front_of (d ∷ cs)

-- the digits of a number's text
abbrev pub digits_of : List ℕ → List ℕ
digits_of text = if has_unit text then front_of text else text

-- what a text is behind its opening quote, up to its closing quote at the end
abbrev pub undoubled : ℕ → List ℕ → Option (List ℕ)
undoubled quote [] = None
undoubled quote (c ∷ []) = if nat_eq c quote then Some [] else None
undoubled quote (c ∷ d ∷ cs) =
    if nat_eq c quote then (if nat_eq d quote then option_map (λ more. c ∷ more) (undoubled quote cs) else None) else option_map (λ more. c ∷ more) (undoubled quote (d ∷ cs))

-- what stands between the quotes of a text
abbrev pub unquoted : List ℕ → Option (List ℕ)
unquoted [] = None
unquoted (q ∷ cs) = if nat_eq q 39 || nat_eq q 34 then undoubled q cs else None
