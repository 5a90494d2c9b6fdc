-- Worked rows of the walk, by computing. Written by reference/theorems.py.
use Rattle.std.proofs.Common.{◌≡◌, refl, ℕ, ℤ, true, false, Bool, [], ◌∷◌, List, None}
use Rattle.std.specs.Prelude.{pos, neg_ℤ, codes}
use Rattle.std.specs.Fmt as fmt
use Rattle.fic_base.specs.declared.code.Code.TheVariants as code
use Rattle.fic_base.specs.declared.place.Place.{Place}
use Rattle.mat_ast.specs.declared.tree.Ident.{Ident}
use Rattle.mat_ast.specs.declared.tree.UnOp.TheVariants as un
use Rattle.mat_ast.specs.declared.tree.BinOp.TheVariants as bin
use Rattle.mat_ast.specs.declared.tree.PostOp.TheVariants as post
use Rattle.mat_ast.specs.Tree.{Number, Words, Name, Apply, End, Unary, Binary, Post, Range, RangeBy, Paren, Matrix, NoArgs, Whole, Item, RowEnd, Cell, NoRows, RowOn, Assign, Store, Multi, IfOnly, IfElse, ForEach, WhileTrue, BreakOff, GoOn, NoArms, Arm, Block, Block, Done, Next, Fun}
use Rattle.node_rules.specs.Types.{NodeTy, FiNode}
use Rattle.walk_scope.specs.Told.{Refuses}
use Rattle.source_typing.specs.Functions.{source_typed}
use Rattle.source_typing.specs.Listed.{node_lines, last_line}
use Rattle.num_type.specs.Constants as d0
use Rattle.fi_math.specs.Govern as d1
use Rattle.fi_math.specs.Logs as d2
use Rattle.fi_math.specs.Made as d3
use Rattle.fi_math.specs.Rules as d4
use Rattle.fi_math.specs.Same as d5
use Rattle.fi_quant.specs.Numbers as d6
use Rattle.fi_ops.specs.Bits as d7
use Rattle.fi_ops.specs.Complex as d8
use Rattle.fi_ops.specs.Operations as d9
use Rattle.const_rules.specs.BestFraction as d10
use Rattle.const_rules.specs.Folds as d11
use Rattle.const_rules.specs.LiteralValues as d12
use Rattle.const_rules.specs.OneForm as d13
use Rattle.const_rules.specs.Splits as d14
use Rattle.const_rules.specs.Stored as d15
use Rattle.fi_rules.specs.Arguments as d16
use Rattle.fi_rules.specs.Calls as d17
use Rattle.fi_rules.specs.Checked as d18
use Rattle.fi_rules.specs.Decimals as d19
use Rattle.fi_rules.specs.Options as d20
use Rattle.fi_rules.specs.Pairs as d21
use Rattle.fi_rules.specs.Properties as d22
use Rattle.fi_rules.specs.Signs as d23
use Rattle.fi_rules.specs.Texts as d24
use Rattle.fi_rules.specs.Types as d25
use Rattle.fi_eval.specs.Calls as d26
use Rattle.fi_eval.specs.Meaning as d27
use Rattle.fi_eval.specs.Operators as d28
use Rattle.fi_eval.specs.Outcome as d29
use Rattle.walk_scope.specs.Names as d30
use Rattle.walk_scope.specs.Rules as d31
use Rattle.walk_scope.specs.Told as d32
use Rattle.fi_values.specs.Arithmetic as d33
use Rattle.fi_values.specs.Bits as d34
use Rattle.fi_values.specs.Brackets as d35
use Rattle.fi_values.specs.Comparisons as d36
use Rattle.fi_values.specs.Logicals as d37
use Rattle.fi_values.specs.Numbers as d38
use Rattle.fi_values.specs.Products as d39
use Rattle.fi_values.specs.Queries as d40
use Rattle.fi_values.specs.Ranges as d41
use Rattle.fi_values.specs.Reads as d42
use Rattle.fi_values.specs.Shapes as d43
use Rattle.fi_values.specs.Stores as d44
use Rattle.fi_values.specs.Subscripts as d45
use Rattle.fi_values.specs.Sums as d46
use Rattle.fi_values.specs.Transposes as d47
use Rattle.fi_meaning.specs.Calls as d48
use Rattle.fi_meaning.specs.Environment as d49
use Rattle.fi_meaning.specs.Expressions as d50
use Rattle.fi_meaning.specs.Functions as d51
use Rattle.fi_meaning.specs.Meaning as d52
use Rattle.fi_meaning.specs.Operators as d53
use Rattle.fi_meaning.specs.Statements as d54
use Rattle.node_rules.specs.Arguments as d55
use Rattle.node_rules.specs.Bits as d56
use Rattle.node_rules.specs.Brackets as d57
use Rattle.node_rules.specs.Built as d58
use Rattle.node_rules.specs.Calls as d59
use Rattle.node_rules.specs.Comparisons as d60
use Rattle.node_rules.specs.Concatenated as d61
use Rattle.node_rules.specs.Filling as d62
use Rattle.node_rules.specs.Logicals as d63
use Rattle.node_rules.specs.Makers as d64
use Rattle.node_rules.specs.Operators as d65
use Rattle.node_rules.specs.Pairs as d66
use Rattle.node_rules.specs.Parted as d67
use Rattle.node_rules.specs.Parts as d68
use Rattle.node_rules.specs.Powers as d69
use Rattle.node_rules.specs.Products as d70
use Rattle.node_rules.specs.Queries as d71
use Rattle.node_rules.specs.Ranges as d72
use Rattle.node_rules.specs.Ruled as d73
use Rattle.node_rules.specs.Sides as d74
use Rattle.node_rules.specs.Signs as d75
use Rattle.node_rules.specs.Stores as d76
use Rattle.node_rules.specs.Subscripts as d77
use Rattle.node_rules.specs.Sums as d78
use Rattle.node_rules.specs.Texts as d79
use Rattle.node_rules.specs.Transposes as d80
use Rattle.node_rules.specs.TypedPairs as d81
use Rattle.node_rules.specs.Types as d82
use Rattle.node_rules.specs.Worked as d83
use Rattle.typed_ir.specs.Parts as d84
use Rattle.source_typing.specs.Calls as d85
use Rattle.source_typing.specs.Expressions as d86
use Rattle.source_typing.specs.Functions as d87
use Rattle.source_typing.specs.Listed as d88
use Rattle.source_typing.specs.Pending as d89
use Rattle.source_typing.specs.SameTypes as d90
use Rattle.source_typing.specs.Statements as d91
use Rattle.source_typing.specs.States as d92

abbrev pl : ℕ → ℕ → ℕ → Place
pl offset line col = record { offset = offset; line = line; col = col }

abbrev ident : List ℕ → Place → Ident
ident text place = record { text = text; place = place }

abbrev fun : Ident → List Ident → List Ident → Block → Fun
fun name inputs outputs body = record { name = name; inputs = inputs; outputs = outputs; body = body }

-- an input: signed, word length, fraction length, complex, rows, columns
abbrev input : Bool → ℕ → ℤ → Bool → ℕ → ℕ → NodeTy
input s w f c m n = FiNode (record { signed = s; word = w; fraction = f }) None c (record { rows = m; columns = n })

rows :
    (node_lines (source_typed ((fun (ident (codes "f") (pl 13 1 14)) ((ident (codes "a") (pl 15 1 16)) ∷ (ident (codes "b") (pl 18 1 19)) ∷ []) ((ident (codes "y") (pl 9 1 10)) ∷ []) (Next (Assign (ident (codes "y") (pl 21 2 1)) (Binary (pl 29 2 9) bin.Add (Binary (pl 26 2 6) bin.Mul (Name (pl 25 2 5) (codes "a")) (Name (pl 27 2 7) (codes "b"))) (Name (pl 31 2 11) (codes "a")))) Done)) ∷ []) (codes "f") ((input true 8 (pos 4) false 1 1) ∷ (input true 8 (pos 4) false 1 1) ∷ [])) ≡ ((codes "2:5 s8.4:1x1") ∷ (codes "2:7 s8.4:1x1") ∷ (codes "2:6 s16.8:1x1") ∷ (codes "2:11 s8.4:1x1") ∷ (codes "2:9 s17.8:1x1") ∷ []))
    × (last_line (source_typed ((fun (ident (codes "f") (pl 13 1 14)) ((ident (codes "a") (pl 15 1 16)) ∷ []) ((ident (codes "y") (pl 9 1 10)) ∷ []) (Next (Assign (ident (codes "y") (pl 18 2 1)) (Apply (pl 22 2 5) (codes "fi") (pl 24 2 7) (Item (Number (pl 25 2 8) (codes "1") false) (Item (Number (pl 27 2 10) (codes "1") false) (Item (Number (pl 29 2 12) (codes "16") false) NoArgs))))) Done)) ∷ []) (codes "f") ((input true 16 (pos 15) false 1 1) ∷ [])) ≡ (codes "s16.14:1x1"))
    × (last_line (source_typed ((fun (ident (codes "f") (pl 13 1 14)) ((ident (codes "a") (pl 15 1 16)) ∷ []) ((ident (codes "y") (pl 9 1 10)) ∷ []) (Next (Assign (ident (codes "y") (pl 18 2 1)) (Apply (pl 22 2 5) (codes "fi") (pl 24 2 7) (Item (Unary (pl 25 2 8) un.Minus (Number (pl 26 2 9) (codes "1") false)) (Item (Number (pl 28 2 11) (codes "1") false) (Item (Number (pl 30 2 13) (codes "16") false) NoArgs))))) Done)) ∷ []) (codes "f") ((input true 16 (pos 15) false 1 1) ∷ [])) ≡ (codes "s16.15:1x1"))
    × (last_line (source_typed ((fun (ident (codes "f") (pl 13 1 14)) ((ident (codes "a") (pl 15 1 16)) ∷ []) ((ident (codes "y") (pl 9 1 10)) ∷ []) (Next (Assign (ident (codes "y") (pl 18 2 1)) (Apply (pl 22 2 5) (codes "fi") (pl 24 2 7) (Item (Number (pl 25 2 8) (codes "0") false) (Item (Number (pl 27 2 10) (codes "1") false) (Item (Number (pl 29 2 12) (codes "16") false) NoArgs))))) Done)) ∷ []) (codes "f") ((input true 16 (pos 15) false 1 1) ∷ [])) ≡ (codes "s16.15:1x1"))
    × (last_line (source_typed ((fun (ident (codes "f") (pl 13 1 14)) ((ident (codes "a") (pl 15 1 16)) ∷ []) ((ident (codes "y") (pl 9 1 10)) ∷ []) (Next (Assign (ident (codes "y") (pl 18 2 1)) (Binary (pl 23 2 6) bin.Mul (Number (pl 22 2 5) (codes "2") false) (Name (pl 24 2 7) (codes "a")))) Done)) ∷ []) (codes "f") ((input true 16 (pos 15) false 1 1) ∷ [])) ≡ (codes "s32.28:1x1"))
    × (source_typed ((fun (ident (codes "f") (pl 13 1 14)) ((ident (codes "a") (pl 15 1 16)) ∷ []) ((ident (codes "y") (pl 9 1 10)) ∷ []) (Next (Assign (ident (codes "y") (pl 18 2 1)) (Apply (pl 22 2 5) (codes "fi") (pl 24 2 7) (Item (Number (pl 25 2 8) (codes "0.1") false) (Item (Number (pl 29 2 12) (codes "1") false) (Item (Number (pl 31 2 14) (codes "16") false) (Item (Number (pl 34 2 17) (codes "15") false) NoArgs)))))) Done)) ∷ []) (codes "f") ((input true 16 (pos 15) false 1 1) ∷ []) ≡ Refuses code.LiteralInexact (pl 25 2 8) (codes "0.1"))
    × (last_line (source_typed ((fun (ident (codes "f") (pl 13 1 14)) ((ident (codes "a") (pl 15 1 16)) ∷ []) ((ident (codes "y") (pl 9 1 10)) ∷ []) (Next (Assign (ident (codes "y") (pl 18 2 1)) (Apply (pl 22 2 5) (codes "fi") (pl 24 2 7) (Item (Binary (pl 31 2 14) bin.Add (Binary (pl 26 2 9) bin.Pow (Number (pl 25 2 8) (codes "2") false) (Unary (pl 27 2 10) un.Minus (Number (pl 28 2 11) (codes "15") false))) (Number (pl 33 2 16) (codes "0.5") false)) (Item (Number (pl 38 2 21) (codes "1") false) (Item (Number (pl 41 2 24) (codes "16") false) (Item (Number (pl 45 2 28) (codes "15") false) NoArgs)))))) Done)) ∷ []) (codes "f") ((input true 16 (pos 15) false 1 1) ∷ [])) ≡ (codes "s16.15:1x1"))
    × (source_typed ((fun (ident (codes "f") (pl 13 1 14)) ((ident (codes "a") (pl 15 1 16)) ∷ []) ((ident (codes "y") (pl 9 1 10)) ∷ []) (Next (Assign (ident (codes "y") (pl 18 2 1)) (Binary (pl 23 2 6) bin.Mul (Name (pl 22 2 5) (codes "a")) (Number (pl 24 2 7) (codes "0.1") false))) Done)) ∷ []) (codes "f") ((input true 16 (pos 15) false 1 1) ∷ []) ≡ Refuses code.LiteralInexact (pl 24 2 7) (codes "0.1"))
    × (source_typed ((fun (ident (codes "f") (pl 13 1 14)) ((ident (codes "a") (pl 15 1 16)) ∷ []) ((ident (codes "y") (pl 9 1 10)) ∷ []) (Next (Assign (ident (codes "y") (pl 18 2 1)) (Apply (pl 22 2 5) (codes "fi") (pl 24 2 7) (Item (Number (pl 25 2 8) (codes "1e23") false) (Item (Number (pl 30 2 13) (codes "1") false) (Item (Number (pl 32 2 15) (codes "16") false) (Item (Number (pl 35 2 18) (codes "0") false) NoArgs)))))) Done)) ∷ []) (codes "f") ((input true 16 (pos 15) false 1 1) ∷ []) ≡ Refuses code.LiteralInexact (pl 25 2 8) (codes "1e23"))
    × (node_lines (source_typed ((fun (ident (codes "fir") (pl 13 1 14)) ((ident (codes "x") (pl 17 1 18)) ∷ (ident (codes "c") (pl 20 1 21)) ∷ []) ((ident (codes "y") (pl 9 1 10)) ∷ []) (Next (Assign (ident (codes "F") (pl 23 2 1)) (Apply (pl 27 2 5) (codes "fimath") (pl 33 2 11) (Item (Words (pl 34 2 12) (codes "RoundingMethod")) (Item (Words (pl 51 2 29) (codes "Floor")) (Item (Words (pl 59 2 37) (codes "OverflowAction")) (Item (Words (pl 76 2 54) (codes "Wrap")) (Item (Words (pl 83 2 61) (codes "SumMode")) (Item (Words (pl 93 2 71) (codes "KeepLSB")) (Item (Words (pl 103 2 81) (codes "SumWordLength")) (Item (Number (pl 119 2 97) (codes "32") false) NoArgs)))))))))) (Next (Assign (ident (codes "acc") (pl 124 3 1)) (Apply (pl 130 3 7) (codes "fi") (pl 132 3 9) (Item (Number (pl 133 3 10) (codes "0") false) (Item (Number (pl 136 3 13) (codes "1") false) (Item (Number (pl 139 3 16) (codes "32") false) (Item (Number (pl 143 3 20) (codes "30") false) (Item (Name (pl 147 3 24) (codes "F")) NoArgs))))))) (Next (ForEach (pl 151 4 1) (ident (codes "k") (pl 155 4 5)) (Range (pl 160 4 10) (Number (pl 159 4 9) (codes "1") false) (Number (pl 161 4 11) (codes "4") false)) (Next (Store (ident (codes "acc") (pl 165 5 3)) (pl 168 5 6) (Whole NoArgs) (Binary (pl 178 5 16) bin.Add (Name (pl 174 5 12) (codes "acc")) (Binary (pl 184 5 22) bin.Mul (Apply (pl 180 5 18) (codes "x") (pl 181 5 19) (Item (Name (pl 182 5 20) (codes "k")) NoArgs)) (Apply (pl 185 5 23) (codes "c") (pl 186 5 24) (Item (Name (pl 187 5 25) (codes "k")) NoArgs))))) Done)) (Next (Assign (ident (codes "y") (pl 195 7 1)) (Apply (pl 199 7 5) (codes "fi") (pl 201 7 7) (Item (Name (pl 202 7 8) (codes "acc")) (Item (Number (pl 207 7 13) (codes "1") false) (Item (Number (pl 210 7 16) (codes "16") false) (Item (Number (pl 214 7 20) (codes "15") false) NoArgs)))))) Done))))) ∷ []) (codes "fir") ((input true 16 (pos 15) false 1 4) ∷ (input true 16 (pos 15) false 1 4) ∷ [])) ≡ ((codes "2:12 text") ∷ (codes "2:29 text") ∷ (codes "2:37 text") ∷ (codes "2:54 text") ∷ (codes "2:61 text") ∷ (codes "2:71 text") ∷ (codes "2:81 text") ∷ (codes "2:97 number:1x1") ∷ (codes "2:5 fimath") ∷ (codes "3:10 number:1x1") ∷ (codes "3:13 number:1x1") ∷ (codes "3:16 number:1x1") ∷ (codes "3:20 number:1x1") ∷ (codes "3:24 fimath") ∷ (codes "3:7 s32.30:1x1 Floor,Wrap,FullPrecision,32,30,KeepLSB,32,30,true") ∷ (codes "4:9 number:1x1") ∷ (codes "4:11 number:1x1") ∷ (codes "5:12 s32.30:1x1 Floor,Wrap,FullPrecision,32,30,KeepLSB,32,30,true") ∷ (codes "5:20 index 1..4") ∷ (codes "5:18 s16.15:1x1") ∷ (codes "5:25 index 1..4") ∷ (codes "5:23 s16.15:1x1") ∷ (codes "5:22 s32.30:1x1") ∷ (codes "5:16 s32.30:1x1 Floor,Wrap,FullPrecision,32,30,KeepLSB,32,30,true") ∷ (codes "7:8 s32.30:1x1 Floor,Wrap,FullPrecision,32,30,KeepLSB,32,30,true") ∷ (codes "7:13 number:1x1") ∷ (codes "7:16 number:1x1") ∷ (codes "7:20 number:1x1") ∷ (codes "7:5 s16.15:1x1") ∷ []))
    × (source_typed ((fun (ident (codes "fir") (pl 13 1 14)) ((ident (codes "x") (pl 17 1 18)) ∷ (ident (codes "c") (pl 20 1 21)) ∷ []) ((ident (codes "y") (pl 9 1 10)) ∷ []) (Next (Assign (ident (codes "acc") (pl 23 2 1)) (Apply (pl 29 2 7) (codes "fi") (pl 31 2 9) (Item (Number (pl 32 2 10) (codes "0") false) (Item (Number (pl 35 2 13) (codes "1") false) (Item (Number (pl 38 2 16) (codes "32") false) (Item (Number (pl 42 2 20) (codes "30") false) NoArgs)))))) (Next (ForEach (pl 47 3 1) (ident (codes "k") (pl 51 3 5)) (Range (pl 56 3 10) (Number (pl 55 3 9) (codes "1") false) (Number (pl 57 3 11) (codes "4") false)) (Next (Assign (ident (codes "acc") (pl 61 4 3)) (Binary (pl 71 4 13) bin.Add (Name (pl 67 4 9) (codes "acc")) (Binary (pl 77 4 19) bin.Mul (Apply (pl 73 4 15) (codes "x") (pl 74 4 16) (Item (Name (pl 75 4 17) (codes "k")) NoArgs)) (Apply (pl 78 4 20) (codes "c") (pl 79 4 21) (Item (Name (pl 80 4 22) (codes "k")) NoArgs))))) Done)) (Next (Assign (ident (codes "y") (pl 88 6 1)) (Apply (pl 92 6 5) (codes "fi") (pl 94 6 7) (Item (Name (pl 95 6 8) (codes "acc")) (Item (Number (pl 100 6 13) (codes "1") false) (Item (Number (pl 103 6 16) (codes "16") false) (Item (Number (pl 107 6 20) (codes "15") false) NoArgs)))))) Done)))) ∷ []) (codes "fir") ((input true 16 (pos 15) false 1 4) ∷ (input true 16 (pos 15) false 1 4) ∷ []) ≡ Refuses code.TypeChange (pl 61 4 3) (codes "s33.30:1x1 into s32.30:1x1"))
    × (node_lines (source_typed ((fun (ident (codes "pick") (pl 13 1 14)) ((ident (codes "x") (pl 18 1 19)) ∷ (ident (codes "n") (pl 21 1 22)) ∷ []) ((ident (codes "y") (pl 9 1 10)) ∷ []) (Next (Assign (ident (codes "y") (pl 24 2 1)) (Apply (pl 28 2 5) (codes "x") (pl 29 2 6) (Item (Name (pl 30 2 7) (codes "n")) NoArgs))) Done)) ∷ []) (codes "pick") ((input true 8 (pos 0) false 1 4) ∷ (input false 8 (pos 0) false 1 1) ∷ [])) ≡ ((codes "2:7 u8.0:1x1") ∷ (codes "2:5 s8.0:1x1") ∷ []))
    × (node_lines (source_typed ((fun (ident (codes "w") (pl 13 1 14)) ((ident (codes "a") (pl 15 1 16)) ∷ []) ((ident (codes "y") (pl 9 1 10)) ∷ []) (Next (Assign (ident (codes "y") (pl 18 2 1)) (Name (pl 22 2 5) (codes "a"))) (Next (WhileTrue (pl 25 3 1) (Name (pl 31 3 7) (codes "true")) (Next (Assign (ident (codes "y") (pl 38 4 3)) (Name (pl 42 4 7) (codes "a"))) Done)) Done))) ∷ []) (codes "w") ((input true 8 (pos 0) false 1 1) ∷ [])) ≡ ((codes "2:5 s8.0:1x1") ∷ (codes "3:7 b:1x1") ∷ (codes "4:7 s8.0:1x1") ∷ []))
    × (source_typed ((fun (ident (codes "g") (pl 13 1 14)) ((ident (codes "a") (pl 15 1 16)) ∷ []) ((ident (codes "y") (pl 9 1 10)) ∷ []) (Next (Assign (ident (codes "y") (pl 18 2 1)) (Name (pl 22 2 5) (codes "a"))) Done)) ∷ []) (codes "f") ((input true 8 (pos 0) false 1 1) ∷ []) ≡ Refuses code.NoEntry (pl 0 1 1) (codes "f"))
    × (source_typed ((fun (ident (codes "f") (pl 13 1 14)) ((ident (codes "a") (pl 15 1 16)) ∷ (ident (codes "b") (pl 18 1 19)) ∷ []) ((ident (codes "y") (pl 9 1 10)) ∷ []) (Next (Assign (ident (codes "y") (pl 21 2 1)) (Binary (pl 26 2 6) bin.Mul (Name (pl 25 2 5) (codes "a")) (Name (pl 27 2 7) (codes "b")))) Done)) ∷ []) (codes "f") ((input true 64 (pos 0) false 1 1) ∷ (input true 8 (pos 0) false 1 1) ∷ []) ≡ Refuses code.TooWide (pl 26 2 6) (codes "72"))
    × (source_typed ((fun (ident (codes "f") (pl 13 1 14)) ((ident (codes "x") (pl 15 1 16)) ∷ []) ((ident (codes "y") (pl 9 1 10)) ∷ []) (Next (Assign (ident (codes "y") (pl 18 2 1)) (Binary (pl 23 2 6) bin.Div (Name (pl 22 2 5) (codes "x")) (Number (pl 24 2 7) (codes "2") false))) Done)) ∷ []) (codes "f") ((input true 8 (pos 0) false 1 1) ∷ []) ≡ Refuses code.Division (pl 23 2 6) (codes "/"))
    × (source_typed ((fun (ident (codes "r") (pl 13 1 14)) ((ident (codes "x") (pl 15 1 16)) ∷ []) ((ident (codes "y") (pl 9 1 10)) ∷ []) (Next (Assign (ident (codes "y") (pl 18 2 1)) (Apply (pl 22 2 5) (codes "r") (pl 23 2 6) (Item (Name (pl 24 2 7) (codes "x")) NoArgs))) Done)) ∷ []) (codes "r") ((input true 8 (pos 0) false 1 1) ∷ []) ≡ Refuses code.Recursion (pl 22 2 5) (codes "r"))
    × (source_typed ((fun (ident (codes "f") (pl 13 1 14)) ((ident (codes "a") (pl 15 1 16)) ∷ []) ((ident (codes "y") (pl 9 1 10)) ∷ []) (Next (Assign (ident (codes "y") (pl 18 2 1)) (Binary (pl 24 2 7) bin.Gt (Name (pl 22 2 5) (codes "a")) (Unary (pl 26 2 9) un.Minus (Number (pl 27 2 10) (codes "1") false)))) Done)) ∷ []) (codes "f") ((input false 8 (pos 0) false 1 1) ∷ []) ≡ Refuses code.LiteralInexact (pl 24 2 7) (codes "-1"))
    × (source_typed ((fun (ident (codes "f") (pl 13 1 14)) ((ident (codes "a") (pl 15 1 16)) ∷ []) ((ident (codes "y") (pl 9 1 10)) ∷ []) (Next (Assign (ident (codes "F") (pl 18 2 1)) (Apply (pl 22 2 5) (codes "fimath") (pl 28 2 11) (Item (Words (pl 29 2 12) (codes "RoundingMethod")) (Item (Words (pl 46 2 29) (codes "Floor")) NoArgs)))) (Next (Assign (ident (codes "G") (pl 56 3 1)) (Apply (pl 60 3 5) (codes "fimath") (pl 66 3 11) (Item (Words (pl 67 3 12) (codes "OverflowAction")) (Item (Words (pl 84 3 29) (codes "Wrap")) NoArgs)))) (Next (Assign (ident (codes "y") (pl 93 4 1)) (Binary (pl 112 4 20) bin.Add (Apply (pl 97 4 5) (codes "setfimath") (pl 106 4 14) (Item (Name (pl 107 4 15) (codes "a")) (Item (Name (pl 109 4 17) (codes "F")) NoArgs))) (Apply (pl 114 4 22) (codes "setfimath") (pl 123 4 31) (Item (Name (pl 124 4 32) (codes "a")) (Item (Name (pl 126 4 34) (codes "G")) NoArgs))))) Done)))) ∷ []) (codes "f") ((input true 8 (pos 0) false 1 1) ∷ []) ≡ Refuses code.FimathDiffers (pl 112 4 20) (codes "Floor,Saturate,FullPrecision,32,30,FullPrecision,32,30,true differs from Nearest,Wrap,FullPrecision,32,30,FullPrecision,32,30,true"))
    × (node_lines (source_typed ((fun (ident (codes "f") (pl 13 1 14)) ((ident (codes "a") (pl 15 1 16)) ∷ (ident (codes "b") (pl 18 1 19)) ∷ []) ((ident (codes "y") (pl 9 1 10)) ∷ []) (Next (Assign (ident (codes "y") (pl 21 2 1)) (Binary (pl 26 2 6) bin.Mul (Name (pl 25 2 5) (codes "a")) (Name (pl 27 2 7) (codes "b")))) Done)) ∷ []) (codes "f") ((input true 8 (pos 0) true 1 1) ∷ (input true 8 (pos 0) true 1 1) ∷ [])) ≡ ((codes "2:5 s8.0:1x1:c") ∷ (codes "2:7 s8.0:1x1:c") ∷ (codes "2:6 s17.0:1x1:c") ∷ []))
    × (node_lines (source_typed ((fun (ident (codes "f") (pl 13 1 14)) ((ident (codes "a") (pl 15 1 16)) ∷ (ident (codes "u") (pl 18 1 19)) ∷ (ident (codes "b") (pl 21 1 22)) ∷ (ident (codes "c") (pl 24 1 25)) ∷ []) ((ident (codes "y") (pl 9 1 10)) ∷ []) (Next (Assign (ident (codes "p") (pl 27 2 1)) (Apply (pl 31 2 5) (codes "bitsra") (pl 37 2 11) (Item (Name (pl 38 2 12) (codes "a")) (Item (Number (pl 41 2 15) (codes "1") false) NoArgs)))) (Next (Assign (ident (codes "q") (pl 45 3 1)) (Apply (pl 49 3 5) (codes "bitcmp") (pl 55 3 11) (Item (Name (pl 56 3 12) (codes "u")) NoArgs))) (Next (Assign (ident (codes "r") (pl 60 4 1)) (Apply (pl 64 4 5) (codes "bitconcat") (pl 73 4 14) (Item (Name (pl 74 4 15) (codes "b")) (Item (Name (pl 77 4 18) (codes "c")) NoArgs)))) (Next (Assign (ident (codes "y") (pl 81 5 1)) (Apply (pl 85 5 5) (codes "bitsliceget") (pl 96 5 16) (Item (Name (pl 97 5 17) (codes "u")) (Item (Number (pl 100 5 20) (codes "6") false) (Item (Number (pl 103 5 23) (codes "3") false) NoArgs))))) Done))))) ∷ []) (codes "f") ((input true 8 (pos 0) false 1 1) ∷ (input false 8 (pos 0) false 1 1) ∷ (input true 4 (pos 0) false 1 1) ∷ (input false 4 (pos 0) false 1 1) ∷ [])) ≡ ((codes "2:12 s8.0:1x1") ∷ (codes "2:15 number:1x1") ∷ (codes "2:5 s8.0:1x1") ∷ (codes "3:12 u8.0:1x1") ∷ (codes "3:5 u8.0:1x1") ∷ (codes "4:15 s4.0:1x1") ∷ (codes "4:18 u4.0:1x1") ∷ (codes "4:5 u8.0:1x1") ∷ (codes "5:17 u8.0:1x1") ∷ (codes "5:20 number:1x1") ∷ (codes "5:23 number:1x1") ∷ (codes "5:5 u4.0:1x1") ∷ []))
    × (node_lines (source_typed ((fun (ident (codes "f") (pl 13 1 14)) ((ident (codes "a") (pl 15 1 16)) ∷ []) ((ident (codes "y") (pl 9 1 10)) ∷ []) (Next (Assign (ident (codes "y") (pl 18 2 1)) (Apply (pl 22 2 5) (codes "fi") (pl 24 2 7) (Item (Name (pl 25 2 8) (codes "a")) (Item (Number (pl 28 2 11) (codes "1") false) (Item (Number (pl 31 2 14) (codes "8") false) (Item (Number (pl 34 2 17) (codes "0") false) (Item (Apply (pl 37 2 20) (codes "fimath") (pl 43 2 26) (Item (Words (pl 44 2 27) (codes "OverflowAction")) (Item (Words (pl 61 2 44) (codes "Wrap")) NoArgs))) NoArgs))))))) Done)) ∷ []) (codes "f") ((input false 8 (pos 0) false 1 1) ∷ [])) ≡ ((codes "2:8 u8.0:1x1") ∷ (codes "2:11 number:1x1") ∷ (codes "2:14 number:1x1") ∷ (codes "2:17 number:1x1") ∷ (codes "2:27 text") ∷ (codes "2:44 text") ∷ (codes "2:20 fimath") ∷ (codes "2:5 s8.0:1x1 Nearest,Wrap,FullPrecision,32,30,FullPrecision,32,30,true") ∷ []))
    × (node_lines (source_typed ((fun (ident (codes "c") (pl 13 1 14)) ((ident (codes "a") (pl 15 1 16)) ∷ []) ((ident (codes "y") (pl 9 1 10)) ∷ []) (Next (Assign (ident (codes "y") (pl 18 2 1)) (Apply (pl 22 2 5) (codes "fi") (pl 24 2 7) (Item (Number (pl 25 2 8) (codes "0") false) (Item (Number (pl 28 2 11) (codes "1") false) (Item (Number (pl 31 2 14) (codes "16") false) (Item (Number (pl 35 2 18) (codes "0") false) NoArgs)))))) (Next (WhileTrue (pl 39 3 1) (Binary (pl 47 3 9) bin.Lt (Name (pl 45 3 7) (codes "y")) (Name (pl 49 3 11) (codes "a"))) (Next (Assign (ident (codes "y") (pl 53 4 3)) (Apply (pl 57 4 7) (codes "fi") (pl 59 4 9) (Item (Binary (pl 62 4 12) bin.Add (Name (pl 60 4 10) (codes "y")) (Number (pl 64 4 14) (codes "1") false)) (Item (Number (pl 67 4 17) (codes "1") false) (Item (Number (pl 70 4 20) (codes "16") false) (Item (Number (pl 74 4 24) (codes "0") false) NoArgs)))))) Done)) Done))) ∷ []) (codes "c") ((input true 16 (pos 0) false 1 1) ∷ [])) ≡ ((codes "2:8 number:1x1") ∷ (codes "2:11 number:1x1") ∷ (codes "2:14 number:1x1") ∷ (codes "2:18 number:1x1") ∷ (codes "2:5 s16.0:1x1") ∷ (codes "3:7 s16.0:1x1") ∷ (codes "3:11 s16.0:1x1") ∷ (codes "3:9 b:1x1") ∷ (codes "4:10 s16.0:1x1") ∷ (codes "4:14 number:1x1") ∷ (codes "4:12 s31.14:1x1") ∷ (codes "4:17 number:1x1") ∷ (codes "4:20 number:1x1") ∷ (codes "4:24 number:1x1") ∷ (codes "4:7 s16.0:1x1") ∷ []))
    × (source_typed ((fun (ident (codes "c") (pl 13 1 14)) ((ident (codes "a") (pl 15 1 16)) ∷ []) ((ident (codes "y") (pl 9 1 10)) ∷ []) (Next (Assign (ident (codes "y") (pl 18 2 1)) (Apply (pl 22 2 5) (codes "fi") (pl 24 2 7) (Item (Number (pl 25 2 8) (codes "0") false) (Item (Number (pl 28 2 11) (codes "1") false) (Item (Number (pl 31 2 14) (codes "16") false) (Item (Number (pl 35 2 18) (codes "0") false) NoArgs)))))) (Next (WhileTrue (pl 39 3 1) (Binary (pl 47 3 9) bin.Lt (Name (pl 45 3 7) (codes "y")) (Name (pl 49 3 11) (codes "a"))) (Next (Assign (ident (codes "y") (pl 53 4 3)) (Binary (pl 59 4 9) bin.Add (Name (pl 57 4 7) (codes "y")) (Number (pl 61 4 11) (codes "1") false))) Done)) Done))) ∷ []) (codes "c") ((input true 16 (pos 0) false 1 1) ∷ []) ≡ Refuses code.TypeChange (pl 53 4 3) (codes "s31.14:1x1 into s16.0:1x1"))
    × (node_lines (source_typed ((fun (ident (codes "f") (pl 13 1 14)) ((ident (codes "a") (pl 15 1 16)) ∷ []) ((ident (codes "y") (pl 9 1 10)) ∷ []) (Next (Assign (ident (codes "y") (pl 18 2 1)) (Apply (pl 22 2 5) (codes "sum") (pl 25 2 8) (Item (Name (pl 26 2 9) (codes "a")) NoArgs))) Done)) ∷ []) (codes "f") ((input true 8 (pos 0) false 1 4) ∷ [])) ≡ ((codes "2:9 s8.0:1x4") ∷ (codes "2:5 s10.0:1x1") ∷ []))
    × (node_lines (source_typed ((fun (ident (codes "f") (pl 13 1 14)) ((ident (codes "a") (pl 15 1 16)) ∷ (ident (codes "b") (pl 18 1 19)) ∷ []) ((ident (codes "y") (pl 9 1 10)) ∷ []) (Next (Assign (ident (codes "y") (pl 21 2 1)) (Name (pl 25 2 5) (codes "a"))) (Next (Store (ident (codes "y") (pl 28 3 1)) (pl 29 3 2) (Item (Matrix (pl 30 3 3) (RowOn (Cell (Number (pl 31 3 4) (codes "1") false) (Cell (Number (pl 33 3 6) (codes "1") false) RowEnd)) NoRows)) NoArgs) (Name (pl 39 3 12) (codes "b"))) Done))) ∷ []) (codes "f") ((input true 8 (pos 0) false 1 2) ∷ (input true 8 (pos 0) false 1 2) ∷ [])) ≡ ((codes "2:5 s8.0:1x2") ∷ (codes "3:12 s8.0:1x2") ∷ (codes "3:4 number:1x1") ∷ (codes "3:6 number:1x1") ∷ (codes "3:3 number:1x2") ∷ []))
    × (node_lines (source_typed ((fun (ident (codes "f") (pl 13 1 14)) ((ident (codes "a") (pl 15 1 16)) ∷ []) ((ident (codes "y") (pl 9 1 10)) ∷ []) (Next (Assign (ident (codes "y") (pl 18 2 1)) (Name (pl 22 2 5) (codes "a"))) (Next (Store (ident (codes "y") (pl 25 3 1)) (pl 26 3 2) (Item (Matrix (pl 27 3 3) (RowOn (Cell (Number (pl 28 3 4) (codes "2") false) (Cell (Number (pl 30 3 6) (codes "1") false) RowEnd)) NoRows)) NoArgs) (Name (pl 36 3 12) (codes "y"))) Done))) ∷ []) (codes "f") ((input true 8 (pos 0) false 1 2) ∷ [])) ≡ ((codes "2:5 s8.0:1x2") ∷ (codes "3:12 s8.0:1x2") ∷ (codes "3:4 number:1x1") ∷ (codes "3:6 number:1x1") ∷ (codes "3:3 number:1x2") ∷ []))
    × (node_lines (source_typed ((fun (ident (codes "g") (pl 13 1 14)) ((ident (codes "x") (pl 15 1 16)) ∷ (ident (codes "n") (pl 18 1 19)) ∷ []) ((ident (codes "y") (pl 9 1 10)) ∷ []) (Next (Assign (ident (codes "y") (pl 21 2 1)) (Binary (pl 31 2 11) bin.AndAnd (Binary (pl 27 2 7) bin.Gt (Name (pl 25 2 5) (codes "n")) (Number (pl 29 2 9) (codes "0") false)) (Binary (pl 39 2 19) bin.Gt (Apply (pl 34 2 14) (codes "x") (pl 35 2 15) (Item (Name (pl 36 2 16) (codes "n")) NoArgs)) (Number (pl 41 2 21) (codes "0") false)))) Done)) ∷ []) (codes "g") ((input true 8 (pos 0) false 1 2) ∷ (input false 8 (pos 0) false 1 1) ∷ [])) ≡ ((codes "2:5 u8.0:1x1") ∷ (codes "2:9 number:1x1") ∷ (codes "2:7 b:1x1") ∷ (codes "2:16 u8.0:1x1") ∷ (codes "2:14 s8.0:1x1") ∷ (codes "2:21 number:1x1") ∷ (codes "2:19 b:1x1") ∷ (codes "2:11 b:1x1") ∷ []))
    × (node_lines (source_typed ((fun (ident (codes "h") (pl 13 1 14)) ((ident (codes "x") (pl 15 1 16)) ∷ (ident (codes "n") (pl 18 1 19)) ∷ []) ((ident (codes "y") (pl 9 1 10)) ∷ []) (Next (Assign (ident (codes "y") (pl 21 2 1)) (Apply (pl 25 2 5) (codes "q") (pl 26 2 6) (Item (Name (pl 27 2 7) (codes "x")) (Item (Name (pl 30 2 10) (codes "n")) NoArgs)))) Done)) ∷ (fun (ident (codes "q") (pl 51 4 14)) ((ident (codes "v") (pl 53 4 16)) ∷ (ident (codes "k") (pl 56 4 19)) ∷ []) ((ident (codes "r") (pl 47 4 10)) ∷ []) (Next (Assign (ident (codes "r") (pl 59 5 1)) (Apply (pl 63 5 5) (codes "v") (pl 64 5 6) (Item (Name (pl 65 5 7) (codes "k")) NoArgs))) Done)) ∷ []) (codes "h") ((input true 8 (pos 0) false 1 2) ∷ (input false 8 (pos 0) false 1 1) ∷ [])) ≡ ((codes "2:7 s8.0:1x2") ∷ (codes "2:10 u8.0:1x1") ∷ (codes "5:7 u8.0:1x1") ∷ (codes "5:5 s8.0:1x1") ∷ (codes "2:5 s8.0:1x1") ∷ []))
    × (node_lines (source_typed ((fun (ident (codes "f") (pl 13 1 14)) ((ident (codes "a") (pl 15 1 16)) ∷ (ident (codes "b") (pl 18 1 19)) ∷ []) ((ident (codes "y") (pl 9 1 10)) ∷ []) (Next (Assign (ident (codes "y") (pl 21 2 1)) (Binary (pl 27 2 7) bin.Sub (Name (pl 25 2 5) (codes "a")) (Name (pl 29 2 9) (codes "b")))) Done)) ∷ []) (codes "f") ((input false 8 (pos 0) false 1 1) ∷ (input false 8 (pos 0) false 1 1) ∷ [])) ≡ ((codes "2:5 u8.0:1x1") ∷ (codes "2:9 u8.0:1x1") ∷ (codes "2:7 u9.0:1x1") ∷ []))
    × (node_lines (source_typed ((fun (ident (codes "f") (pl 13 1 14)) ((ident (codes "a") (pl 15 1 16)) ∷ (ident (codes "b") (pl 18 1 19)) ∷ []) ((ident (codes "y") (pl 9 1 10)) ∷ []) (Next (Assign (ident (codes "y") (pl 21 2 1)) (Apply (pl 25 2 5) (codes "fi") (pl 27 2 7) (Item (Binary (pl 30 2 10) bin.Add (Name (pl 28 2 8) (codes "a")) (Binary (pl 33 2 13) bin.ElemMul (Name (pl 32 2 12) (codes "b")) (Name (pl 35 2 15) (codes "a")))) (Item (Number (pl 38 2 18) (codes "1") false) (Item (Number (pl 41 2 21) (codes "16") false) (Item (Number (pl 45 2 25) (codes "8") false) NoArgs)))))) Done)) ∷ []) (codes "f") ((input true 8 (pos 4) false 1 8) ∷ (input true 8 (pos 4) false 1 8) ∷ [])) ≡ ((codes "2:8 s8.4:1x8") ∷ (codes "2:12 s8.4:1x8") ∷ (codes "2:15 s8.4:1x8") ∷ (codes "2:13 s16.8:1x8") ∷ (codes "2:10 s17.8:1x8") ∷ (codes "2:18 number:1x1") ∷ (codes "2:21 number:1x1") ∷ (codes "2:25 number:1x1") ∷ (codes "2:5 s16.8:1x8") ∷ []))
    × (node_lines (source_typed ((fun (ident (codes "f") (pl 13 1 14)) ((ident (codes "A") (pl 15 1 16)) ∷ (ident (codes "B") (pl 18 1 19)) ∷ (ident (codes "C") (pl 21 1 22)) ∷ []) ((ident (codes "y") (pl 9 1 10)) ∷ []) (Next (Assign (ident (codes "y") (pl 24 2 1)) (Binary (pl 34 2 11) bin.Mul (Post (pl 33 2 10) post.CTranspose (Paren (pl 28 2 5) (Binary (pl 30 2 7) bin.Mul (Name (pl 29 2 6) (codes "A")) (Name (pl 31 2 8) (codes "B"))))) (Name (pl 35 2 12) (codes "C")))) Done)) ∷ []) (codes "f") ((input true 8 (pos 0) false 4 4) ∷ (input true 8 (pos 0) false 4 4) ∷ (input true 8 (pos 0) false 4 4) ∷ [])) ≡ ((codes "2:6 s8.0:4x4") ∷ (codes "2:8 s8.0:4x4") ∷ (codes "2:7 s18.0:4x4") ∷ (codes "2:5 s18.0:4x4") ∷ (codes "2:10 s18.0:4x4") ∷ (codes "2:12 s8.0:4x4") ∷ (codes "2:11 s28.0:4x4") ∷ []))
    × (source_typed ((fun (ident (codes "f") (pl 13 1 14)) ((ident (codes "a") (pl 15 1 16)) ∷ []) ((ident (codes "y") (pl 9 1 10)) ∷ []) (Next (Assign (ident (codes "y") (pl 18 2 1)) (Apply (pl 22 2 5) (codes "fi") (pl 24 2 7) (Item (Apply (pl 25 2 8) (codes "zeros") (pl 30 2 13) (Item (Number (pl 31 2 14) (codes "64") false) (Item (Number (pl 34 2 17) (codes "65") false) NoArgs))) (Item (Number (pl 38 2 21) (codes "1") false) (Item (Number (pl 40 2 23) (codes "8") false) (Item (Number (pl 42 2 25) (codes "0") false) NoArgs)))))) Done)) ∷ []) (codes "f") ((input true 8 (pos 0) false 1 1) ∷ []) ≡ Refuses code.Limit (pl 25 2 8) (codes "4096"))
    × (node_lines (source_typed ((fun (ident (codes "f") (pl 13 1 14)) ((ident (codes "a") (pl 15 1 16)) ∷ (ident (codes "b") (pl 18 1 19)) ∷ []) ((ident (codes "y") (pl 9 1 10)) ∷ []) (Next (Assign (ident (codes "y") (pl 21 2 1)) (Binary (pl 34 2 14) bin.Add (Post (pl 32 2 12) post.CTranspose (Paren (pl 25 2 5) (Binary (pl 28 2 8) bin.Add (Name (pl 26 2 6) (codes "a")) (Name (pl 30 2 10) (codes "a"))))) (Name (pl 36 2 16) (codes "b")))) Done)) ∷ []) (codes "f") ((input true 8 (pos 0) false 4 1) ∷ (input true 8 (pos 0) false 1 4) ∷ [])) ≡ ((codes "2:6 s8.0:4x1") ∷ (codes "2:10 s8.0:4x1") ∷ (codes "2:8 s9.0:4x1") ∷ (codes "2:5 s9.0:4x1") ∷ (codes "2:12 s9.0:1x4") ∷ (codes "2:16 s8.0:1x4") ∷ (codes "2:14 s10.0:1x4") ∷ []))
    × (node_lines (source_typed ((fun (ident (codes "f") (pl 13 1 14)) ((ident (codes "a") (pl 15 1 16)) ∷ (ident (codes "b") (pl 18 1 19)) ∷ []) ((ident (codes "y") (pl 9 1 10)) ∷ []) (Next (Assign (ident (codes "y") (pl 46 3 1)) (Binary (pl 67 4 3) bin.Add (Name (pl 50 3 5) (codes "a")) (Name (pl 69 4 5) (codes "b")))) (Next (Assign (ident (codes "y") (pl 87 8 3)) (Post (pl 92 8 8) post.CTranspose (Name (pl 91 8 7) (codes "y")))) (Next (Assign (ident (codes "x") (pl 96 8 12)) (Matrix (pl 100 8 16) (RowOn (Cell (Name (pl 101 8 17) (codes "a")) (Cell (Name (pl 108 9 1) (codes "b")) RowEnd)) (RowOn (Cell (Name (pl 110 10 1) (codes "a")) (Cell (Name (pl 112 10 3) (codes "b")) RowEnd)) NoRows)))) Done)))) ∷ []) (codes "f") ((input true 8 (pos 0) false 1 1) ∷ (input true 8 (pos 0) false 1 1) ∷ [])) ≡ ((codes "3:5 s8.0:1x1") ∷ (codes "4:5 s8.0:1x1") ∷ (codes "4:3 s9.0:1x1") ∷ (codes "8:7 s9.0:1x1") ∷ (codes "8:8 s9.0:1x1") ∷ (codes "8:17 s8.0:1x1") ∷ (codes "9:1 s8.0:1x1") ∷ (codes "10:1 s8.0:1x1") ∷ (codes "10:3 s8.0:1x1") ∷ (codes "8:16 s8.0:2x2") ∷ []))
    × (node_lines (source_typed ((fun (ident (codes "f") (pl 13 1 14)) ((ident (codes "a") (pl 15 1 16)) ∷ (ident (codes "b") (pl 18 1 19)) ∷ []) ((ident (codes "y") (pl 9 1 10)) ∷ []) (Next (Assign (ident (codes "y") (pl 21 2 1)) (Binary (pl 42 3 3) bin.Add (Name (pl 25 2 5) (codes "a")) (Name (pl 44 3 5) (codes "b")))) (Next (Assign (ident (codes "x") (pl 47 4 1)) (Matrix (pl 51 4 5) (RowOn (Cell (Name (pl 52 4 6) (codes "a")) (Cell (Name (pl 59 5 1) (codes "b")) RowEnd)) (RowOn (Cell (Name (pl 61 6 1) (codes "a")) (Cell (Name (pl 63 6 3) (codes "b")) RowEnd)) NoRows)))) (Next (Assign (ident (codes "z") (pl 67 7 1)) (Apply (pl 71 7 5) (codes "x") (pl 72 7 6) (Item (Number (pl 73 7 7) (codes "2") false) (Item (Number (pl 82 8 3) (codes "1") false) NoArgs)))) Done)))) ∷ []) (codes "f") ((input true 8 (pos 0) false 1 1) ∷ (input true 8 (pos 0) false 1 1) ∷ [])) ≡ ((codes "2:5 s8.0:1x1") ∷ (codes "3:5 s8.0:1x1") ∷ (codes "3:3 s9.0:1x1") ∷ (codes "4:6 s8.0:1x1") ∷ (codes "5:1 s8.0:1x1") ∷ (codes "6:1 s8.0:1x1") ∷ (codes "6:3 s8.0:1x1") ∷ (codes "4:5 s8.0:2x2") ∷ (codes "7:7 number:1x1") ∷ (codes "8:3 number:1x1") ∷ (codes "7:5 s8.0:1x1") ∷ []))
    × (source_typed ((fun (ident (codes "f") (pl 13 1 14)) ((ident (codes "a") (pl 15 1 16)) ∷ []) ((ident (codes "y") (pl 9 1 10)) ∷ []) (Next (Assign (ident (codes "y") (pl 18 2 1)) (Name (pl 22 2 5) (codes "a"))) (Next (Assign (ident (codes "x") (pl 25 3 1)) (Words (pl 29 3 5) (codes "it's"))) Done))) ∷ []) (codes "f") ((input true 8 (pos 0) false 1 1) ∷ []) ≡ Refuses code.FloatOperand (pl 25 3 1) (codes "x"))
    × (source_typed ((fun (ident (codes "f") (pl 13 1 14)) ((ident (codes "a") (pl 15 1 16)) ∷ (ident (codes "c") (pl 18 1 19)) ∷ []) ((ident (codes "y") (pl 9 1 10)) ∷ []) (Next (Assign (ident (codes "v") (pl 21 2 1)) (Post (pl 41 2 21) post.CTranspose (Matrix (pl 25 2 5) (RowOn (Cell (Name (pl 26 2 6) (codes "a")) (Cell (Unary (pl 29 2 9) un.Minus (Name (pl 30 2 10) (codes "a"))) RowEnd)) (RowOn (Cell (Paren (pl 33 2 13) (Name (pl 34 2 14) (codes "a"))) (Cell (Unary (pl 38 2 18) un.Plus (Name (pl 39 2 19) (codes "a"))) RowEnd)) NoRows))))) (Next (ForEach (pl 44 3 1) (ident (codes "k") (pl 48 3 5)) (RangeBy (pl 53 3 10) (Number (pl 52 3 9) (codes "2") false) (Unary (pl 54 3 11) un.Minus (Number (pl 55 3 12) (codes "1") false)) (Number (pl 57 3 14) (codes "1") false)) (Next (Store (ident (codes "v") (pl 61 4 3)) (pl 62 4 4) (Item (Name (pl 63 4 5) (codes "k")) (Whole NoArgs)) (Apply (pl 71 4 13) (codes "v") (pl 72 4 14) (Item (End (pl 73 4 15)) (Item (Matrix (pl 78 4 20) (RowOn (Cell (Number (pl 79 4 21) (codes "1") false) (Cell (Number (pl 81 4 23) (codes "2") false) RowEnd)) NoRows)) NoArgs)))) Done)) (Next (IfElse (pl 90 6 1) (Arm (Binary (pl 102 6 13) bin.OrOr (Unary (pl 93 6 4) un.Not (Paren (pl 94 6 5) (Binary (pl 97 6 8) bin.Gt (Name (pl 95 6 6) (codes "a")) (Number (pl 99 6 10) (codes "0") false)))) (Name (pl 105 6 16) (codes "false"))) (Next (Assign (ident (codes "y") (pl 113 7 3)) (Binary (pl 118 7 8) bin.ElemMul (Name (pl 117 7 7) (codes "c")) (Number (pl 120 7 10) (codes "2") true))) Done) NoArms) (Next (Assign (ident (codes "y") (pl 131 9 3)) (Binary (pl 179 9 51) bin.Mul (Apply (pl 135 9 7) (codes "complex") (pl 142 9 14) (Item (Apply (pl 143 9 15) (codes "fi") (pl 145 9 17) (Item (Apply (pl 146 9 18) (codes "v") (pl 147 9 19) (Item (Number (pl 148 9 20) (codes "2") false) NoArgs)) (Item (Number (pl 152 9 24) (codes "1") false) (Item (Number (pl 155 9 27) (codes "12") false) (Item (Number (pl 159 9 31) (codes "3") false) NoArgs))))) (Item (Apply (pl 163 9 35) (codes "fi") (pl 165 9 37) (Item (Number (pl 166 9 38) (codes "0") false) (Item (Number (pl 169 9 41) (codes "1") false) (Item (Number (pl 172 9 44) (codes "12") false) (Item (Number (pl 176 9 48) (codes "3") false) NoArgs))))) NoArgs))) (Number (pl 180 9 52) (codes "0.5") false))) Done)) Done)))) ∷ []) (codes "f") ((input true 8 (pos 0) false 1 1) ∷ (input true 7 (pos 0) true 1 1) ∷ []) ≡ Refuses code.TypeChange (pl 131 9 3) (codes "s24.14:1x1:c into s15.4:1x1:c"))
unfolding d0.units d0.order_of d1.governed d2.halvings d3.limited d3.and_then d4.mode_type d4.product_by d4.sum_by d4.product_made d4.add_made d4.sub_made d4.stepped d4.sum_made d4.complex_product_made d5.same_fimath d6.rounded d6.fitted d6.scaled d6.quantised d7.bits_of d7.with_bits d7.left_shifted d7.right_shifted d7.sign_shifted d7.complemented d7.anded d7.ored d7.xored d7.concatenated d7.sliced d8.complex_summed d8.complex_subtracted d8.complex_multiplied d8.conjugated d9.aligned d9.taken d9.multiplied d9.joined d9.negated d9.absolute d9.compared d10.width_up_to d10.greatest_fraction_of d10.common_fraction d10.best_fraction_of d11.power d12.tenfold_of d12.decimal_of d12.literal_of d13.reduced d13.constant_of d14.split_up_to d15.is_exact_at d15.stored_at d15.stored_within d16.constant_in d16.whole_of d16.bit_of d16.size_of d16.length_of d16.text_in d16.math_in d17.built_in_named d17.best_asked d17.is_numeric d17.fi_one d17.fi_two d17.fi_three d17.fi_four d17.fi_asked d17.type_made d17.numerictype_asked d17.fimath_asked d17.set_asked d17.setfimath_asked d17.remove_asked d17.removefimath_asked d17.like_asked d17.cast_asked d17.sign_asked d17.abs_asked d17.asked d17.built d17.with_math d17.built_type d18.bind d18.needed d18.choose d19.size_text d19.whole_text d20.and_then d20.where_so d20.named d20.all_of d21.folded d21.numbers_folded d21.power_folded d21.fi_meets d21.number_meets d21.sum_met d21.power_met d21.met d21.limits_checked d21.governed_checked d21.work_made d21.side_made d21.worked d22.with_property d22.with_properties d23.plus_checked d23.minus_checked d23.sign_checked d24.math_text d24.attached_text d24.ty_text d24.shown_text d25.type_of d25.known_value d25.same_attached d25.same_ty d26.taken_value d26.attached d26.built_value d26.called_built_in d27.output d28.met_at d28.stored_of d28.shape_of d28.is_single d28.computed d28.math_of d28.turned d28.minus d28.with_sign d29.bind d29.or_wrong d29.choose d30.supported d30.unsupported d30.divisions d31.told_at d31.literal_in d31.constant_in d32.bind d32.choose d33.complex_folded d33.fi_operand d33.beside_operand d33.operands d33.governing d33.result_made d33.result_parts d33.fi_value d33.is_arithmetic d33.arithmetic d34.word_of d34.two_typed d34.concatenated_pair d34.bits_between d35.joined d35.is_element d36.comparison_of d36.elements_of d36.of_truths d36.number_compared d36.is_number d36.compared_values d37.truth d37.scalar_truth d37.deciding d37.complement d37.connected d38.bound_of d39.product_shape d39.matrix d40.array_shape d40.extent_along d40.real_part d40.imaginary_part d40.complex_of d41.ranged d42.or_fault d42.selected d43.common d44.fits d44.real_taken d44.complex_taken d44.truths_taken d44.stored_at d45.subscript_of d45.selection d46.made d46.summed_value d47.conjugate d47.flipped d48.element_ty d48.single_ty d48.constant_ty d48.value_ty d48.takes d48.argument_types d48.taken_value d48.attached d48.built_value d48.cast_like d48.after_rules d48.constant_value d48.function_values d48.like_at_end d48.filled_call d48.function_call d48.by_name d49.then_do d49.turned d49.behind_loop d50.literal d50.only d50.is_word d50.decided d50.right_decides d50.behind_left d51.function_of d51.natural d51.filled_by d51.along d51.conjugate_of d51.given d52.entry_output d53.power d53.by_operator d53.signed_class d53.minus d53.by_sign d54.loop_items d54.call_outputs d54.output_values d55.word_of d55.wanted_node d55.element_of d55.constant_of d55.value_of d55.element_types d56.number_or_nought d56.paired_value d56.complemented_ruled d56.each_value d56.shifted_ruled d56.sliced_ruled d56.sliced_parts d56.sliced_value d57.kind_of d57.is_joined d57.alike d57.imaginary_of d57.joined_imaginary d57.joined_ty d57.together d57.of_type d58.has_rule d58.calling_shape d58.shape_or d58.along_or d58.function_met d58.function_worked d58.function_value d59.call_shape d59.function_types d59.function_call_met d59.function_call_value d59.either_met d59.number_values d59.either_value d59.stand_in d59.is_told_before d59.excluded d59.items_met d59.call_worked d60.is_order d60.truths_met d60.comparison_met d60.comparison_worked d60.truths_of d60.equal_truths d60.truths d60.comparison_value d61.is_real_fi d61.word_length d61.type_in d61.concatenated_value d62.whole_constant d62.may_size d62.filling_shape d62.is_like d62.filled_met d62.filled_worked d62.filled_value d63.connected_met d63.connected_value d63.complement_ruled d63.complement_value d63.skip_ruled d63.skip_value d63.skipped d64.is_complex_fi d64.is_supported d64.takes_parts d64.making_shape d64.first_ty d64.is_complex_call d64.object_node d64.built_node d64.taken_parts d64.completed d64.maker_value d65.compared_met d65.compared_or d65.pair_met d65.pair_worked d65.pair_value d66.numbers_met d66.span_of d66.span_worked d66.arithmetic_met d66.fi_result d66.items_worked d66.arithmetic_value d67.part_ruled d67.real_value d67.imaginary_value d67.conjugate_ruled d67.complex_value d68.parts_of d68.parts_in d68.truths_in d68.whole_or_nought d69.power_met_by d69.power_met d70.numbers_product d70.matrix_met d70.type_or d70.entries_of d70.matrix_result d70.matrix_value d71.asked_shape d72.may_bound d72.is_truth d72.is_fi d73.bind d73.needed d73.tested d73.ruled d73.fine d74.beside d74.no_sides d74.sides d74.meeting_shape d75.plus_ruled d75.minus_ruled d75.sign_ruled d75.minus_value d75.sign_value d76.is_assigned d76.takes d76.put_value d76.store_value d77.subscript_ruled d77.item_ruled d77.is_logical d77.readable d77.read_value d78.sum_met d78.sum_result d78.sum_of_operand d78.sum_value d79.ty_text d79.why_text d79.sign_text d79.mark_text d80.conjugated d80.post_ruled d80.post_value d81.typed_pair_met d82.ty_of d82.known d82.is_complex d82.is_complex_number d82.is_index d82.is_numeric d83.worked d84.outputs_called d85.word_in d85.of_one_output d86.ends_in d86.literal_type d86.literal_told d86.known d86.end_typed d86.at_right d86.pair_typed d87.entry_output d87.given_told d87.function_told d87.entry_told d88.fimath_behind d88.listed_type d88.node_lines d88.last_line d89.told_at d90.same_parts d90.same_node d91.kept_type d91.outputs_typed d91.is_condition d91.bounds_typed d92.type_in d92.readable_in d92.again d92.both d92.assumed fmt.digits
rows = (refl, refl, refl, refl, refl, refl, refl, refl, refl, refl, refl, refl, refl, refl, refl, refl, refl, refl, refl, refl, refl, refl, refl, refl, refl, refl, refl, refl, refl, refl, refl, refl, refl, refl, refl, refl, refl, refl)
