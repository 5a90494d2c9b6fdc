-- What a source gives: its tree, or its refusal.
use Rattle.std.specs.Prelude.{◌≡◌, ◌≤◌, ℕ, List, []}
use Rattle.fic_base.specs.declared.refusal.Refusal.{Refusal}
use Rattle.mat_ast.specs.Tree.{Fun}
use Rattle.mat_ast.specs.Depth.{file_depth}
use Rattle.mat_token.specs.Lexeme.{Lexeme, lexemes_of}
use Rattle.mat_token.specs.Reads.{Outcome, Gives, Refuses}
use Rattle.mat_token.specs.Outcome.{IsOutcome}
use Rattle.mat_grammar.specs.Grammar.{file}
use Rattle.mat_grammar.specs.Refused.{IsRefused}

-- a tree, or a refusal
pub data Parsed : Type 0 where
  Tree : List Fun → Parsed
  Refused : Refusal → Parsed

-- what a token list gives: its tree of depth at most 100, or its refusal
abbrev pub IsParseOf : List Lexeme → Parsed → Type 0
IsParseOf ts (Tree fs) = file fs ts [] × (file_depth fs ≤ 100)
IsParseOf ts (Refused r) = IsRefused ts r

-- what the outcome of reading the tokens of a source gives
abbrev pub IsBehind : List ℕ → Outcome → Parsed → Type 0
IsBehind bytes (Gives tokens) p = IsParseOf (lexemes_of bytes tokens) p
IsBehind bytes (Refuses r) p = p ≡ Refused r

-- what the bytes of a source give: the tree of its tokens, of depth at most 100, or their refusal, or the refusal to read tokens
pub record IsParse (bytes : List ℕ) (p : Parsed) : Type 0 where
  pub outcome : Outcome
  pub is : IsOutcome bytes outcome
  pub gives : IsBehind bytes outcome p
