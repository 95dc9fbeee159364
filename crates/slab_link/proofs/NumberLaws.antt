-- For its own sake: the number of the code is that of the definitions.
use Rattle.std.specs.Prelude.{◌≡◌, refl}
use Rattle.slab_link.specs.Numbers.{links_end}
use Rattle.slab_link.specs.declared.link.TheConstants.{LINKS_END}

links : LINKS_END ≡ links_end
links = refl
