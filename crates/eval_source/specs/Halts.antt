-- What a refusal of a literal is to an evaluation.
use Rattle.fic_base.specs.declared.place.Place.{Place}
use Rattle.fic_base.specs.declared.refusal.Refusal.{Refusal}
use Rattle.num_type.specs.declared.memory.Stop.{Stop}
use Rattle.num_type.specs.declared.memory.Stop.TheVariants as stop
use Rattle.eval_value.specs.declared.halt.Halt.{Halt}
use Rattle.eval_value.specs.declared.halt.Halt.TheVariants as halt

abbrev pub halted : Stop Refusal → Place → Halt
halted stop.Memory at = halt.Memory
halted (stop.Refused r) at = halt.Wrong at
