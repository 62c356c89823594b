-- The words by which a refusal's layer is printed.
use Rattle.std.specs.Prelude.{ℕ, List, codes}
use Rattle.faults.specs.declared.refusal.Layer.{Layer}
use Rattle.faults.specs.declared.refusal.Layer.TheVariants.{Block, Record, Run}

abbrev pub layer_word : Layer → List ℕ
layer_word Block = codes "block"
layer_word Record = codes "record"
layer_word Run = codes "run"
