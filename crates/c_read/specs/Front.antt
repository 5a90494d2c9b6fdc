-- The first two lines of a text.
use Rattle.std.specs.Prelude.{◌≡◌, ◌≢◌, ℕ, ◌≤◌, List, ◌++◌, length, drop, Result, Ok, Err}
use Rattle.num_type.specs.declared.memory.Stop.{Stop}
use Rattle.num_type.specs.declared.memory.Stop.TheVariants as stop
use Rattle.c_tree.specs.Tree.{Signature}
use Rattle.c_tree.specs.View.{interface_view}
use Rattle.c_tree.specs.Interface.{include_line, interface_line}
use Rattle.c_token.specs.declared.line.InterfaceLine.{InterfaceLine}
use Rattle.c_token.specs.Line.{IsSignature}
use Rattle.c_read.specs.declared.refusal.CBad.{CBad}
use Rattle.c_read.specs.declared.refusal.CBad.TheVariants as bad
use Rattle.c_read.specs.declared.refusal.CRefusal.{CRefusal}

-- the first two lines spell an interface, and the text goes on at an offset
pub record HasFront (i : Signature) (end : ℕ) (bytes : List ℕ) : Type 0 where
  pub signature : IsSignature i
  pub whole : bytes ≡ include_line ++ interface_line i ++ drop end bytes
  pub within : end ≤ length bytes

-- the text doesn't begin with the first line
abbrev pub HasNoInclude : List ℕ → Type 0
HasNoInclude bytes = (rest : List ℕ) → bytes ≢ include_line ++ rest

-- it does, and no interface has its line behind it
pub record HasNoInterface (bytes : List ℕ) : Type 0 where
  pub rest : List ℕ
  pub include : bytes ≡ include_line ++ rest
  pub none : (i : Signature) (behind : List ℕ) → IsSignature i → bytes ≢ include_line ++ interface_line i ++ behind

-- why a text is refused at its first two lines: at offset 0 for the first, and at offset 20 for the second
abbrev pub IsBadFront : CBad → ℕ → List ℕ → Type 0
IsBadFront bad.Include offset bytes = (offset ≡ 0) × HasNoInclude bytes
IsBadFront bad.Interface offset bytes = (offset ≡ 20) × HasNoInterface bytes
IsBadFront _ offset bytes = ⊥

-- what a reader of the first two lines answers
abbrev pub ReadsFront : Result InterfaceLine (Stop CRefusal) → List ℕ → Type 0
ReadsFront (Ok l) bytes = HasFront (interface_view l.interface) l.end bytes
ReadsFront (Err stop.Memory) bytes = Unit {0}
ReadsFront (Err (stop.Refused r)) bytes = IsBadFront r.kind r.offset bytes
