-- What the state of the parser stands for.
use Rattle.std.specs.Prelude.{◌≡◌, List, [], ◌∷◌, drop, Option, Some, None}
use Rattle.c_tree.specs.declared.tree.CWord.{CWord}
use Rattle.c_tree.specs.View.{expr_view, block_view}
use Rattle.c_parts.specs.declared.pending.Wanted.{Wanted}
use Rattle.c_parts.specs.declared.pending.Wanted.TheVariants as wanted
use Rattle.c_parts.specs.declared.pending.Purpose.{Purpose}
use Rattle.c_parts.specs.declared.pending.Purpose.TheVariants as purpose
use Rattle.c_parts.specs.declared.pending.Frame.{Frame}
use Rattle.c_parts.specs.declared.pending.Frame.TheVariants as frame
use Rattle.c_parts.specs.declared.pending.Past.{Past}
use Rattle.c_parts.specs.declared.pending.Reading.{Reading}
use Rattle.c_parts.specs.declared.pending.Reading.TheVariants as reading
use Rattle.c_parts.specs.declared.pending.Reader.{Reader}
use Rattle.c_grammar.specs.Machine as machine
use Rattle.c_grammar.specs.Machine.{Want, Any, Only, ValueOf, PlaceOf, ElementOf, First, InCast, InElement, InNeg, InBinary, InTest, InThen, InElse, State, Declare, Within, Status, Need, Digits, Opened, Casting, Have, Whole, Stuck, owe}

unfoldable pub want_view : Wanted → Want
want_view wanted.Any = Any
want_view (wanted.Only t) = Only t

unfoldable pub purpose_view : Purpose → machine.Purpose
purpose_view (purpose.ValueOf k t) = ValueOf k t
purpose_view (purpose.PlaceOf a) = PlaceOf a
purpose_view (purpose.ElementOf a x) = ElementOf a (expr_view x)

unfoldable pub frame_view : Frame → machine.Frame
frame_view (frame.First w) = First (want_view w)
frame_view (frame.InCast t) = InCast t
frame_view (frame.InElement a) = InElement a
frame_view frame.InNeg = InNeg
frame_view (frame.InBinary o a t u) = InBinary o (expr_view a) t u
frame_view (frame.InTest w p a t) = InTest (want_view w) p (expr_view a) t
frame_view (frame.InThen p a b t) = InThen p (expr_view a) (expr_view b) t
frame_view (frame.InElse p a b t x u) = InElse p (expr_view a) (expr_view b) t (expr_view x) u

-- the last frame is the innermost
abbrev pub onto : List Frame → List machine.Frame → List machine.Frame
onto [] st = st
onto (f ∷ fs) st = onto fs (frame_view f ∷ st)

unfoldable pub frames_of : List Frame → List machine.Frame
frames_of fs = onto fs []

unfoldable pub past_view : Past → machine.Past
past_view p = record { words = p.words; done = block_view p.done }

unfoldable pub reading_view : Reading → State
reading_view (reading.Declare words) = Declare words
reading_view (reading.Within p) = Within (past_view p)
reading_view (reading.Status p) = Status (past_view p)
reading_view (reading.Need w p) = Need (want_view w) (frames_of p.frames) (purpose_view p.purpose) (past_view p.past)
reading_view (reading.Digits t p) = Digits t (frames_of p.frames) (purpose_view p.purpose) (past_view p.past)
reading_view (reading.Opened w p) = Opened (want_view w) (frames_of p.frames) (purpose_view p.purpose) (past_view p.past)
reading_view (reading.Casting t p) = Casting t (frames_of p.frames) (purpose_view p.purpose) (past_view p.past)
reading_view (reading.Have e t p) = Have (expr_view e) t (frames_of p.frames) (purpose_view p.purpose) (past_view p.past)
reading_view (reading.Whole p) = Whole (past_view p)

unfoldable pub reader_view : Reader → State
reader_view r = owe (drop r.at r.words) (reading_view r.reading)

-- what comes next is this state, or it is stuck
abbrev pub Goes : Option Reader → State → Type 0
Goes None q = Stuck ≡ q
Goes (Some r) q = reader_view r ≡ q

-- the type of the innermost cast, where the innermost frame is one
unfoldable pub top_cast : List machine.Frame → Option CWord
top_cast (InCast t ∷ st) = Some t
top_cast _ = None
