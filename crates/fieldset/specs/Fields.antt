-- The fields by number.
--     number f   the number of the field f
use Rattle.std.specs.Prelude.{ℕ}
use Rattle.fieldset.specs.declared.field.Field.{Field}
use Rattle.fieldset.specs.declared.field.Field.TheVariants.{UserName, LocationInformation, PolicyControlContactPoint, AccessNetworkType, TerminalType, LogicalAccessId, PhysicalAccessId, InitialGateSetting, QosProfile, EmergencyCallRoutingInfo}

abbrev pub number : Field → ℕ
number UserName = 0
number LocationInformation = 1
number PolicyControlContactPoint = 2
number AccessNetworkType = 3
number TerminalType = 4
number LogicalAccessId = 5
number PhysicalAccessId = 6
number InitialGateSetting = 7
number QosProfile = 8
number EmergencyCallRoutingInfo = 9
