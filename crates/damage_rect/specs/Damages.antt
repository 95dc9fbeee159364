-- Damage: the rectangle around all that was added.
use Rattle.std.specs.Prelude.{pos}
use Rattle.damage_rect.specs.declared.bounding.Damage.{Damage}

abbrev pub no_damage : Damage
no_damage = record { rect = record { left = pos 0; top = pos 0; right = pos 0; bottom = pos 0 } }
