-- What holds of all that is written.
use Rattle.std.proofs.Common.{◌≡◌, ℕ, suc, ◌+◌, ◌%◌, true, ◌&&◌, List, [], ◌∷◌, ◌++◌, length, take, sym, refl, ap, ◌∙◌, subst, append-nil, arith, length-append}
use Rattle.std.proofs.lemmas.List.{take_at}
use Rattle.std.proofs.lemmas.List.Elements.{All-head, All-tail}
use Rattle.diameter.specs.Avps.{code, vendor, step, payload, group}
use Rattle.diameter.specs.Lists.{front, avps, cut}
use Rattle.diameter.specs.Laws.{Piece, Sound, none}
use Rattle.diameter.specs.Soundness.{sound}
use Rattle.diameter.proofs.Decided.{decided}
use Rattle.diameter.proofs.Pieces.{step_is, stands_is, payload_is, rest_is}
use Rattle.diameter.proofs.Turns.{avps_more}
use Rattle.diameter.proofs.Walks.{sound_none, sound_plain, sound_group}
use Rattle.writer.specs.Headers.{message_header}
use Rattle.writer.specs.Parts.{Part, part_bytes, parts_bytes, parts_size, part_vendor, part_avp, Encodable, SoundPart, plain, nested}
use Rattle.writer.specs.Laws.{ReadBackAt, PlainKeepsSound, GroupKeepsSound, PartsSound, PartsReadBack, HeaderReadBack}
use Rattle.writer.proofs.Numbers.{be24_bytes24, be32_bytes32}
use Rattle.writer.proofs.Avps.{length_avp, avp_size_whole, code_avp, vendor_avp, piece_avp, payload_avp}

-- a part with something after it
module _ (p : Part) (rest : List ℕ) (e : Encodable p) where
  piece : Piece (part_bytes p)
  piece = piece_avp p.code p.flags p.vendor p.payload e.size_fits

  code_is : code (part_bytes p ++ rest) ≡ p.code
  code_is = code_avp p.code p.flags p.vendor p.payload rest e.code_fits

  vendor_is : vendor (part_bytes p ++ rest) ≡ part_vendor p
  vendor_is = vendor_avp p.code p.flags p.vendor p.payload rest e.vendor_fits

  data_is : payload (part_bytes p ++ rest) ≡ p.payload
  data_is = payload_is (part_bytes p) rest piece ∙ payload_avp p.code p.flags p.vendor p.payload e.size_fits

  octets_are : take (step (part_bytes p ++ rest)) (part_bytes p ++ rest) ≡ part_bytes p
  octets_are = take_at (part_bytes p) rest (step (part_bytes p ++ rest)) (sym (step_is (part_bytes p) rest piece))

  front_is : front (part_bytes p ++ rest) ≡ part_avp p
  front_is = λ i. record { code = code_is i; vendor = vendor_is i; flags = p.flags; payload = data_is i; octets = octets_are i }

  pub read_back : ReadBackAt (part_bytes p ++ rest) p rest
  read_back =
      let there = stands_is (part_bytes p) rest piece in
      let after = rest_is (part_bytes p) rest piece in
      record {
        there = there;
        same = front_is;
        rest_is = after;
        list_is = avps_more (part_bytes p ++ rest) there ∙ (λ i. front_is i ∷ avps (after i));
      }

  -- the name that is read is the one written
  name_is : group (code (part_bytes p ++ rest)) (vendor (part_bytes p ++ rest)) ≡ group p.code (part_vendor p)
  name_is = λ i. group (code_is i) (vendor_is i)

pub plain_keeps_sound : PlainKeepsSound
plain_keeps_sound n p rest e g =
    let r = read_back p rest e in sound_plain n (part_bytes p ++ rest) r.there (name_is p rest e ∙ g) ∙ ap (sound n) r.rest_is

pub group_keeps_sound : GroupKeepsSound
group_keeps_sound n p rest e g s =
    let r = read_back p rest e in
    sound_group n (part_bytes p ++ rest) r.there (name_is p rest e ∙ g)
    ∙ (λ i. (ap (sound n) (data_is p rest e) ∙ s) i && sound (suc n) (r.rest_is i))

part_keeps_sound : {n : ℕ} {p : Part} (rest : List ℕ) → Encodable p → SoundPart n p → sound n rest ≡ true → sound n (part_bytes p ++ rest) ≡ true
part_keeps_sound {n} {p} rest e (plain g) s = plain_keeps_sound n p rest e g ∙ s
part_keeps_sound rest e (nested {n} {p} g i) s = group_keeps_sound n p rest e g ((decided n p.payload).1 i) ∙ s

pub parts_sound : PartsSound
parts_sound n [] a = none
parts_sound n (p ∷ ps) a =
    let first = All-head (λ q. Encodable q × SoundPart n q) p ps a in
    let others = parts_sound n ps (All-tail (λ q. Encodable q × SoundPart n q) p ps a) in
    (decided n (part_bytes p ++ parts_bytes ps)).0 (part_keeps_sound (parts_bytes ps) first.0 first.1 ((decided n (parts_bytes ps)).1 others))

-- one part alone
pub part_sound : {n : ℕ} {p : Part} → Encodable p → SoundPart n p → Sound n (part_bytes p)
part_sound {n} {p} e s = subst (Sound n) (append-nil (part_bytes p)) ((decided n (part_bytes p ++ [])).0 (part_keeps_sound [] e s (sound_none n)))

pub length_parts : (ps : List Part) → length (parts_bytes ps) ≡ parts_size ps
length_parts [] = refl
length_parts (p ∷ ps) =
    length-append (part_bytes p) (parts_bytes ps)
    ∙ (λ i. length_avp p.code p.flags p.vendor p.payload i + length_parts ps i)

pub parts_size_whole : (ps : List Part) → parts_size ps % 4 ≡ 0
parts_size_whole [] = refl
parts_size_whole (p ∷ ps) = omega (arith, avp_size_whole p.flags (length p.payload), parts_size_whole ps)

pub parts_read_back : PartsReadBack
unfolding cut
parts_read_back [] a = refl
parts_read_back (p ∷ ps) a =
    (read_back p (parts_bytes ps) (All-head Encodable p ps a)).list_is
    ∙ ap (λ l. part_avp p ∷ l) (parts_read_back ps (All-tail Encodable p ps a))

pub header_read_back : HeaderReadBack
header_read_back size flags command application hop end rest s c a h e = (
  λ i. record {
    version = 1;
    length = be24_bytes24 size rest s i;
    flags = flags;
    command = be24_bytes24 command rest c i;
    application = be32_bytes32 application rest a i;
    hop_by_hop = be32_bytes32 hop rest h i;
    end_to_end = be32_bytes32 end rest e i;
  },
  refl,
)

-- a header has 20 bytes
pub length_message : (size flags command application hop end : ℕ) (rest : List ℕ) → length (message_header size flags command application hop end ++ rest) ≡ 20 + length rest
length_message size flags command application hop end rest = omega arith
