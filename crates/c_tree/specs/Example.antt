-- A worked program: y = a*b + a for two numbers of 8 bits, 4 of them behind the point.
use Rattle.std.specs.Prelude.{ℕ, pos, true, false, List, [], ◌∷◌, codes}
use Rattle.c_tree.specs.declared.tree.CArray.TheVariants.{Input, Output}
use Rattle.c_tree.specs.declared.tree.CWord.TheVariants.{I64}
use Rattle.c_tree.specs.declared.tree.COp.TheVariants.{Add, Mul}
use Rattle.c_tree.specs.Tree.{Fixed, Slot, Exp, Signed, Var, Element, Binary, Set, Store, Return, Done, Next, Program}

-- one signed number
abbrev pub scalar : List ℕ → ℕ → ℕ → Slot
scalar name word fraction = record { name = name; kind = Fixed (record { signed = true; word = word; fraction = pos fraction }) false; rows = 1; columns = 1 }

-- the one element of an input
abbrev pub input : ℕ → Exp
input k = Element (Input k) (Signed 0)

-- the program
abbrev pub example : Program
example = record {
  interface = record {
    entry = codes "f";
    inputs = scalar (codes "a") 8 4 ∷ scalar (codes "b") 8 4 ∷ [];
    outputs = scalar (codes "y") 17 8 ∷ [];
  };
  arrays = [];
  words = I64 ∷ I64 ∷ [];
  groups = 0;
  barriers = 0;
  sources = 0;
  turns = 0;
  body =
      Next (Set 0 (Binary Mul (input 0) (input 1)))
      (Next (Set 1 (Binary Add (Var 0) (Binary Mul (input 0) (Signed 16))))
      (Next (Store (Output 0) (Signed 0) (Var 1))
      (Next (Return 0) Done)));
}

-- its text
abbrev pub example_text : List ℕ
example_text = codes "#include <stdint.h>\n/* fic f a:s8.4:1x1 b:s8.4:1x1 -> y:s17.8:1x1 */\nint32_t fic_f(const int8_t in_a[1], const int8_t in_b[1], int32_t out_y[1]) {\n  int64_t v0 = INT64_C(0);\n  int64_t v1 = INT64_C(0);\n  v0 = ((int64_t)in_a[INT64_C(0)] * (int64_t)in_b[INT64_C(0)]);\n  v1 = (v0 + ((int64_t)in_a[INT64_C(0)] * INT64_C(16)));\n  out_y[INT64_C(0)] = (int32_t)v1;\n  return INT32_C(0);\n}\n"
