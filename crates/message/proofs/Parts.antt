-- AVPs as values: their bytes, that they fit, and that they are sound.
use Rattle.std.proofs.Common.{◌≡◌, ℕ, zero, suc, ◌^◌, ◌<◌, ◌≤◌, Bool, true, false, cond, eqb, List, [], ◌∷◌, ◌++◌, length, sym, refl, ap, ◌∙◌, ⊎_elim, append_assoc, append-nil, arith, length-append}
use Rattle.std.specs.List.{All}
use Rattle.std.proofs.lemmas.List.Elements.{All-nil, All-cons, All-append, All-weaker}
use Rattle.std.proofs.lemmas.Bool.{cases_Bool}
use Rattle.std.proofs.lemmas.Bool.Decides.{nat_tests}
use Rattle.diameter.specs.Avps.{group}
use Rattle.diameter.specs.Bytes.{flagged}
use Rattle.diameter.specs.Soundness.{sound, walk}
use Rattle.diameter.specs.Laws.{Sound}
use Rattle.diameter.proofs.Decided.{decided}
use Rattle.fieldset.specs.Sets.{has, members}
use Rattle.writer.specs.Bytes.{bytes32}
use Rattle.writer.specs.Avps.{head_size, avp}
use Rattle.writer.specs.Parts.{Part, part_bytes, parts_bytes, part_vendor, Encodable, SoundPart, plain, nested}
use Rattle.writer.proofs.Avps.{length_avp}
use Rattle.message.specs.Limits.{field_limit}
use Rattle.message.specs.Fields.{field_code, field_vendor, field_flags, field_part}
use Rattle.message.specs.Messages.{sender_avps, sender_size}
use Rattle.message.specs.Parts.{one, application_part, sender_parts}
use Rattle.message.specs.Laws.{is_group_field, GroupFields}

pub parts_append : (ps qs : List Part) → parts_bytes (ps ++ qs) ≡ parts_bytes ps ++ parts_bytes qs
parts_append [] qs = refl
parts_append (p ∷ ps) qs = ap (λ (l : List ℕ). part_bytes p ++ l) (parts_append ps qs) ∙ sym (append_assoc (part_bytes p) (parts_bytes ps) (parts_bytes qs))

pub sender_bytes : (host realm : List ℕ) → sender_avps host realm ≡ parts_bytes (sender_parts host realm)
sender_bytes host realm = ap (λ (l : List ℕ). avp 277 0x40 0 (bytes32 1) ++ (avp 264 0x40 0 host ++ l)) (sym (append-nil (avp 296 0x40 0 realm)))

pub cond_le : (b : Bool) (x y n : ℕ) → x ≤ n → y ≤ n → cond b x y ≤ n
cond_le true x y n h l = h
cond_le false x y n h l = l

pub head_le : (f : ℕ) → head_size f ≤ 12
head_le f = cond_le (flagged 0x80 f) 12 8 12 (omega arith) (omega arith)

pub one_fits : (c : ℕ) (xs : List ℕ) → c < 2 ^ 32 → length xs ≤ 2048 → Encodable (one c xs)
one_fits c xs h l = record { code_fits = h; vendor_fits = omega arith; size_fits = omega arith }

pub field_code_le : (k : ℕ) → field_code k ≤ 361
field_code_le k = grind (arith, nat_tests)

pub field_fits : (k : ℕ) (xs : List ℕ) → length xs ≤ field_limit k → Encodable (field_part k xs)
field_fits k xs h =
    let c = field_code_le k in
    let v : field_vendor k ≤ 13019 = cond_le (eqb k 0) 0 13019 13019 (omega arith) (omega arith) in
    let l : field_limit k ≤ 64 = cond_le (eqb k 0) 64 48 64 (omega arith) (omega arith) in
    let s = head_le (field_flags k) in
    record { code_fits = omega arith; vendor_fits = omega arith; size_fits = omega arith }

-- the members of a set are below its width
one_below : (b : Bool) (d : ℕ) → All (λ k. k < suc d) (cond b (d ∷ []) [])
one_below true d = All-cons (λ k. k < suc d) d [] (omega arith) (All-nil (λ k. k < suc d))
one_below false d = All-nil (λ k. k < suc d)

pub members_below : (d n : ℕ) → All (λ k. k < d) (members d n)
unfolding members
members_below zero n = All-nil (λ k. k < zero)
members_below (suc d) n =
    All-append (λ k. k < suc d) (members d n) (cond (has n d) (d ∷ []) [])
    (All-weaker (λ k. k < d) (λ k. k < suc d) (λ k h. omega arith) (members d n) (members_below d n))
    (one_below (has n d) d)

pub unless_all : (P : Part → Type 0) (b : Bool) (p : Part) → P p → All P (cond b [] (p ∷ []))
unless_all P true p h = All-nil P
unless_all P false p h = All-cons P p [] h (All-nil P)

pub length_sender : (host realm : List ℕ) → length (sender_avps host realm) ≡ sender_size host realm
length_sender host realm =
    let h = length_avp 264 0x40 0 host in
    let r = length_avp 296 0x40 0 realm in
    omega (arith, length-append (avp 264 0x40 0 host) (avp 296 0x40 0 realm))

pub all_both : {X : Type 0} (P Q : X → Type 0) (xs : List X) → All P xs → All Q xs → All (λ x. P x × Q x) xs
all_both P Q xs p q = λ k d l. (p k d l, q k d l)

pub application_sound : Sound 3 application_part.payload
unfolding sound walk
application_sound = (decided 3 application_part.payload).0 refl

pub group_fields : GroupFields
group_fields k h = grind (arith, nat_tests)

-- the vendor that a field's header names
vendor_named : (k : ℕ) (xs : List ℕ) → part_vendor (field_part k xs) ≡ field_vendor k
vendor_named k xs = grind (arith, nat_tests)

pub field_sound : (k : ℕ) (xs : List ℕ) → k < 10 → (is_group_field k ≡ true → sound 3 xs ≡ true) → SoundPart 4 (field_part k xs)
field_sound k xs h s =
    let named = ap (group (field_code k)) (vendor_named k xs) in
    ⊎_elim
    (λ t. nested (named ∙ group_fields k h ∙ t) ((decided 3 xs).0 (s t)))
    (λ f. plain (named ∙ group_fields k h ∙ f))
    (cases_Bool (is_group_field k))
