-- For its own sake: the number of the code is that of the definitions.
use Rattle.std.specs.Prelude.{◌≡◌, refl}
use Rattle.attr_table.specs.declared.values.TheConstants.{MAX_WHOLE_WEIGHT}
use Rattle.attr_table.specs.Numbers.{max_whole_weight}

whole_weights : MAX_WHOLE_WEIGHT ≡ max_whole_weight
whole_weights = refl
