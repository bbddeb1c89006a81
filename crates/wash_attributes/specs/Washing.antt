-- What the code washes the attributes of an element with.
use Rattle.std.specs.Prelude.{chars}
use Rattle.wash_attributes.specs.declared.attributes.Washing.{Washing}
use Rattle.wash_attributes.specs.Given.{Given}
use Rattle.wash_attributes.specs.Attributes.{with_declared}
use Rattle.wash_attributes.specs.Addresses.{given_of}

abbrev pub given_in : Washing → Given
given_in with = with_declared (chars with.declared.now) (given_of with.references.now with.place.now with.images)
