-- The refusals as a table: for each its number and the result that its answer carries.
--     number r     the number by which the interface names r
--     code r       the result that the answer to r carries, or none where there is no answer
--     AllInOrder   the list of all refusals has each at the place of its number
use Rattle.std.specs.Prelude.{◌≡◌, ℕ, ◌-◌, Some, None, Option, slice_get}
use Rattle.refusal.specs.declared.TheConstants.Refusal.{ALL}
use Rattle.refusal.specs.declared.Refusal.{Refusal}
use Rattle.refusal.specs.declared.Refusal.TheVariants.{UnknownAf, ShortBuffer, WrongSize, NotRequest, WrongVersion, WrongApplication, WrongCommand, Unsound, UnsupportedAvp, RepeatedAvp, MissingAvp, WrongAvp, WrongAf, AmbiguousUser, NoSession, NothingToShow, NoPlace, WrongArgument, AddressTaken, NoRoom, NoSuchAddress, UnsoundValue, NoticeOut, NothingWaiting, WrongSlip, WrongAfCount, WrongName, WrongRow, WrongOpening}
use Rattle.refusal.specs.declared.ResultCode.{ResultCode}
use Rattle.refusal.specs.declared.ResultCode.TheVariants.{Base, Experimental}

abbrev pub number : Refusal → ℕ
number UnknownAf = 1
number ShortBuffer = 2
number WrongSize = 3
number NotRequest = 4
number WrongVersion = 5
number WrongApplication = 6
number WrongCommand = 7
number Unsound = 8
number UnsupportedAvp = 9
number RepeatedAvp = 10
number MissingAvp = 11
number WrongAvp = 12
number WrongAf = 13
number AmbiguousUser = 14
number NoSession = 15
number NothingToShow = 16
number NoPlace = 17
number WrongArgument = 18
number AddressTaken = 19
number NoRoom = 20
number NoSuchAddress = 21
number UnsoundValue = 22
number NoticeOut = 23
number NothingWaiting = 24
number WrongSlip = 25
number WrongAfCount = 26
number WrongName = 27
number WrongRow = 28
number WrongOpening = 29

abbrev pub code : Refusal → Option ResultCode
code UnknownAf = None
code ShortBuffer = None
code WrongSize = None
code NotRequest = None
code WrongVersion = Some (Base 5011)
code WrongApplication = Some (Base 3007)
code WrongCommand = Some (Base 3001)
code Unsound = Some (Base 5014)
code UnsupportedAvp = Some (Base 5001)
code RepeatedAvp = Some (Base 5009)
code MissingAvp = Some (Base 5005)
code WrongAvp = Some (Base 5004)
code WrongAf = Some (Base 5003)
code AmbiguousUser = Some (Base 5012)
code NoSession = Some (Experimental 5001)
code NothingToShow = Some (Experimental 4100)
code NoPlace = Some (Base 5012)
code WrongArgument = None
code AddressTaken = None
code NoRoom = None
code NoSuchAddress = None
code UnsoundValue = None
code NoticeOut = None
code NothingWaiting = None
code WrongSlip = None
code WrongAfCount = None
code WrongName = None
code WrongRow = None
code WrongOpening = None

abbrev pub AllInOrder : Type 0
AllInOrder = (r : Refusal) → slice_get ALL (number r - 1) ≡ Some r
