-- The place that a declared one stands for.
use Rattle.opt_base.specs.declared.place.Place as declared_place
use Rattle.opt_base.specs.declared.place.Place.TheVariants as place
use Rattle.theory_rewriting.specs.Steps.{Place, Anywhere, AsBase, AsGuard}

abbrev pub place_of : declared_place.Place → Place
place_of place.Anywhere = Anywhere
place_of place.Base = AsBase
place_of place.Guard = AsGuard
