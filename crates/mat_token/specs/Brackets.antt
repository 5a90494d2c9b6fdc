-- The separators of brackets: blanks between two elements.
use Rattle.std.specs.Prelude.{ℕ, Bool, true, false, List, [], ◌∷◌, ◌++◌, drop, not, ◌&&◌, ◌||◌, ◌==◌, slice_index, if◌then◌else◌, codes, bytes_eq}
use Rattle.std.specs.List.{list_any}
use Rattle.fic_base.specs.declared.place.Place.{Place}
use Rattle.mat_token.specs.declared.token.Kind.{Kind}
use Rattle.mat_token.specs.declared.token.Kind.TheVariants as kind
use Rattle.mat_token.specs.declared.token.Token.{Token}
use Rattle.mat_token.specs.Bytes.{starts_blank, starts_dots}
use Rattle.mat_token.specs.Lexeme.{text_of}
use Rattle.mat_token.specs.Rules.{ends_operand}

-- what stands behind a token
abbrev pub behind : List ℕ → Token → List ℕ
behind bytes t = drop t.len (drop t.place.offset bytes)

-- `(`, `[` and `~` begin an operand, and so does a sign that no blank follows
abbrev pub op_begins_operand : List ℕ → List ℕ → Bool
op_begins_operand text rest =
    list_any (bytes_eq text) (codes "(" ∷ codes "[" ∷ codes "~" ∷ [])
    || (list_any (bytes_eq text) (codes "+" ∷ codes "-" ∷ []) && not (starts_blank rest || starts_dots rest))

-- whether an operand begins with a token of this text, behind which the rest stands
abbrev pub begins_operand : Kind → List ℕ → List ℕ → Bool
begins_operand kind.Name text rest = true
begins_operand kind.Number text rest = true
begins_operand kind.Words text rest = true
begins_operand kind.Keyword text rest = bytes_eq text (codes "end")
begins_operand kind.Op text rest = op_begins_operand text rest
begins_operand _ text rest = false

-- the open brackets without the innermost one
abbrev pub closed : List ℕ → List ℕ
closed [] = []
closed (b ∷ outer) = outer

-- `(` or `[`
abbrev pub is_opening : List ℕ → Bool
is_opening text = bytes_eq text (codes "(") || bytes_eq text (codes "[")

-- `)` or `]`
abbrev pub is_closing : List ℕ → Bool
is_closing text = bytes_eq text (codes ")") || bytes_eq text (codes "]")

-- the open brackets after a token, the innermost first; a closing one closes the innermost
abbrev pub open_after : List ℕ → List ℕ → List ℕ
open_after brackets text =
    if is_opening text then slice_index text 0 ∷ brackets
    else (if is_closing text then closed brackets else brackets)

-- whether a separator stands before a token: a blank where the innermost open bracket is `[`, behind the end of an operand and before the beginning of one
abbrev pub is_separated : List ℕ → List ℕ → Bool → Token → Bool
is_separated bytes brackets operand t =
    slice_index brackets 0 == 91 && (operand && (t.blank_before && begins_operand t.kind (text_of bytes t) (behind bytes t)))

-- the separator before the token at a place
abbrev pub separator_at : Place → Token
separator_at at = record { place = at; len = 0; kind = kind.Separator; blank_before = true }

-- a token, with a separator before it or without
abbrev pub with_separator : Bool → Token → List Token
with_separator separated t = if separated then separator_at t.place ∷ t ∷ [] else t ∷ []

-- the tokens with the separators put in; `operand` is whether an operand ends before them
abbrev pub separated : List ℕ → List ℕ → Bool → List Token → List Token
separated bytes brackets operand [] = []
separated bytes brackets operand (t ∷ ts) =
    with_separator (is_separated bytes brackets operand t) t
    ++ separated bytes (open_after brackets (text_of bytes t)) (ends_operand t.kind (text_of bytes t)) ts
