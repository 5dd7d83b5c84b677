-- The AVPs that a request may hold: the dictionary.
--     known c v      which of them has the code c and the vendor v
--     code k, vendor k, flags k   its name, and the flags that we write with it
--     shortest k     the least length of its data, 0 for a group
--     index k        its place in the dictionary, counted from 0
--     repeats k      it may stand more than once in a request
use Rattle.std.specs.Prelude.{ℕ, Bool, true, false, cond, Some, None, Option, ◌==◌}
use Rattle.dictionary.specs.declared.known.Known.{Known}
use Rattle.dictionary.specs.declared.known.Known.TheVariants.{UserName, FramedIpAddress, VendorSpecificApplicationId, SessionId, OriginHost, AuthSessionState, RouteRecord, DestinationRealm, ProxyInfo, DestinationHost, OriginRealm, GloballyUniqueAddress, AddressRealm, RequestedInformation, EventType, AfApplicationIdentifier, SubsReqType, ExpiryTime}

-- of the base protocol
abbrev pub of_base : ℕ → Option Known
of_base c =
    cond (c == 1) (Some UserName)
    (cond (c == 8) (Some FramedIpAddress)
    (cond (c == 260) (Some VendorSpecificApplicationId)
    (cond (c == 263) (Some SessionId)
    (cond (c == 264) (Some OriginHost)
    (cond (c == 277) (Some AuthSessionState)
    (cond (c == 282) (Some RouteRecord)
    (cond (c == 283) (Some DestinationRealm)
    (cond (c == 284) (Some ProxyInfo)
    (cond (c == 293) (Some DestinationHost)
    (cond (c == 296) (Some OriginRealm) None))))))))))

-- of ETSI
abbrev pub of_etsi : ℕ → Option Known
of_etsi c =
    cond (c == 300) (Some GloballyUniqueAddress)
    (cond (c == 301) (Some AddressRealm)
    (cond (c == 353) (Some RequestedInformation)
    (cond (c == 354) (Some EventType) None)))

-- of 3GPP
abbrev pub of_3gpp : ℕ → Option Known
of_3gpp c =
    cond (c == 504) (Some AfApplicationIdentifier)
    (cond (c == 705) (Some SubsReqType)
    (cond (c == 709) (Some ExpiryTime) None))

abbrev pub known : ℕ → ℕ → Option Known
known c v = cond (v == 0) (of_base c) (cond (v == 13019) (of_etsi c) (cond (v == 10415) (of_3gpp c) None))

abbrev pub code : Known → ℕ
code UserName = 1
code FramedIpAddress = 8
code VendorSpecificApplicationId = 260
code SessionId = 263
code OriginHost = 264
code AuthSessionState = 277
code RouteRecord = 282
code DestinationRealm = 283
code ProxyInfo = 284
code DestinationHost = 293
code OriginRealm = 296
code GloballyUniqueAddress = 300
code AddressRealm = 301
code RequestedInformation = 353
code EventType = 354
code AfApplicationIdentifier = 504
code SubsReqType = 705
code ExpiryTime = 709

abbrev pub vendor : Known → ℕ
vendor UserName = 0
vendor FramedIpAddress = 0
vendor VendorSpecificApplicationId = 0
vendor SessionId = 0
vendor OriginHost = 0
vendor AuthSessionState = 0
vendor RouteRecord = 0
vendor DestinationRealm = 0
vendor ProxyInfo = 0
vendor DestinationHost = 0
vendor OriginRealm = 0
vendor GloballyUniqueAddress = 13019
vendor AddressRealm = 13019
vendor RequestedInformation = 13019
vendor EventType = 13019
vendor AfApplicationIdentifier = 10415
vendor SubsReqType = 10415
vendor ExpiryTime = 10415

abbrev pub flags : Known → ℕ
flags UserName = 0x40
flags FramedIpAddress = 0x40
flags VendorSpecificApplicationId = 0x40
flags SessionId = 0x40
flags OriginHost = 0x40
flags AuthSessionState = 0x40
flags RouteRecord = 0x40
flags DestinationRealm = 0x40
flags ProxyInfo = 0x40
flags DestinationHost = 0x40
flags OriginRealm = 0x40
flags GloballyUniqueAddress = 0xC0
flags AddressRealm = 0xC0
flags RequestedInformation = 0x80
flags EventType = 0x80
flags AfApplicationIdentifier = 0xC0
flags SubsReqType = 0xC0
flags ExpiryTime = 0x80

abbrev pub shortest : Known → ℕ
shortest UserName = 1
shortest FramedIpAddress = 4
shortest VendorSpecificApplicationId = 0
shortest SessionId = 1
shortest OriginHost = 1
shortest AuthSessionState = 4
shortest RouteRecord = 1
shortest DestinationRealm = 1
shortest ProxyInfo = 0
shortest DestinationHost = 1
shortest OriginRealm = 1
shortest GloballyUniqueAddress = 0
shortest AddressRealm = 1
shortest RequestedInformation = 4
shortest EventType = 4
shortest AfApplicationIdentifier = 1
shortest SubsReqType = 4
shortest ExpiryTime = 4

abbrev pub repeats : Known → Bool
repeats UserName = false
repeats FramedIpAddress = false
repeats VendorSpecificApplicationId = false
repeats SessionId = false
repeats OriginHost = false
repeats AuthSessionState = false
repeats RouteRecord = true
repeats DestinationRealm = false
repeats ProxyInfo = true
repeats DestinationHost = false
repeats OriginRealm = false
repeats GloballyUniqueAddress = false
repeats AddressRealm = false
repeats RequestedInformation = true
repeats EventType = true
repeats AfApplicationIdentifier = false
repeats SubsReqType = false
repeats ExpiryTime = false

-- its place in the dictionary
abbrev pub index : Known → ℕ
index UserName = 0
index FramedIpAddress = 1
index VendorSpecificApplicationId = 2
index SessionId = 3
index OriginHost = 4
index AuthSessionState = 5
index RouteRecord = 6
index DestinationRealm = 7
index ProxyInfo = 8
index DestinationHost = 9
index OriginRealm = 10
index GloballyUniqueAddress = 11
index AddressRealm = 12
index RequestedInformation = 13
index EventType = 14
index AfApplicationIdentifier = 15
index SubsReqType = 16
index ExpiryTime = 17
