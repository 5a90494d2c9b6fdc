use Rattle.std.proofs.Common.{[], refl}
use Rattle.std.specs.Prelude.{IsTrue}
use Rattle.case_io.specs.Cases.{IsWithin}
use Rattle.case_io.specs.View.{range_view}
use Rattle.case_io.specs.Plain.{is_canonical}
use Rattle.case_io.proofs.Arrays.{text_at, value_at}
use Rattle.case_io.proofs.plain.read_array.Goals as goal

pub read_value-requires : goal.read_value-requires
read_value-requires c = text_at (λ t. IsTrue (is_canonical t)) c.args.texts.now c.loop-text.text-index (record { ref_ptr = (0, 0); now = [] }) c.loop-text-test.true c.requires

pub returns-in-None : goal.returns-in-None
returns-in-None c all = c.in-None.ensures.none refl (value_at (IsWithin (range_view c.args.range.now)) c.args.texts.now c.loop-text.text-index (record { ref_ptr = (0, 0); now = [] }) c.loop-text-test.true all)
