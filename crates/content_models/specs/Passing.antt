-- What a pass forward holds.
use Rattle.std.specs.Prelude.{List, reverse}
use Rattle.content_models.specs.declared.compiling.Fronts.{Fronts}
use Rattle.content_models.specs.declared.ways.Front.{Front}

-- the fronts that wait, the last first
abbrev pub fronts_in : Fronts → List Front
fronts_in f = reverse f.waiting.items
