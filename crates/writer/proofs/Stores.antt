-- Stores, one at a time and in a row.
use Rattle.std.proofs.Common.{◌≡◌, ℕ, ◌+◌, ◌-◌, ◌≤◌, List, ◌++◌, length, get_or, take, drop, sym, ap, ◌∙◌, subst, append_assoc, arith, length-append, length-drop, length-take, drop-drop}
use borrow.Rule.Slice.PartMut.{put_mid}
use Rattle.std.proofs.lemmas.List.{length-take-le, get_or-take, get_or-drop, get_or_append_left, get_or-append-add}
use Rattle.std.proofs.lemmas.Slice.{take-put_mid, drop-put_mid}
use Rattle.writer.specs.declared.writer.Writer.{Writer}
use Rattle.writer.specs.Stores.{Wrote, Appends}
use Rattle.writer.specs.Laws.{Stored, StoresOnlyAppend, StoresCompose}

-- the store of `run` in the part from `at` to `upto`
pub wrote_part : (b : List ℕ) (at upto : ℕ) (part run : List ℕ) → part ≡ run → upto ≡ at + length run → upto ≤ length b → Wrote b at run (put_mid at (upto - at) b part) upto
wrote_part b at upto part run same ends fits =
    let l : length part ≡ length run = ap length same in
    record {
      end = ends;
      front = take-put_mid at (upto - at) b part upto (omega arith) (omega arith) ∙ ap (λ q. take at b ++ q) same;
      rest = drop-put_mid at (upto - at) b part upto (omega arith) (omega arith) (omega arith);
      size = simp (length-append, length-take, length-drop) (omega arith);
    }

wrote_both : {b₀ b₁ b₂ : List ℕ} {at e₁ e₂ : ℕ} {xs ys : List ℕ} → Wrote b₀ at xs b₁ e₁ → Wrote b₁ e₁ ys b₂ e₂ → Wrote b₀ at (xs ++ ys) b₂ e₂
wrote_both {b₀} {b₁} {b₂} {at} {e₁} {e₂} {xs} {ys} v w =
    record {
      end = omega (arith, v.end, w.end, length-append xs ys);
      front = w.front ∙ ap (λ q. q ++ ys) v.front ∙ append_assoc (take at b₀) xs ys;
      rest =
          w.rest
          ∙ (let e = w.end in
          rw e (sym (drop-drop (length ys) e₁ b₁) ∙ ap (λ q. drop (length ys) q) v.rest ∙ drop-drop (length ys) e₁ b₀));
      size = w.size ∙ v.size;
    }

infixr 30 ◌⊕◌
-- two stores in a row are one
pub ◌⊕◌ : {w₀ w₁ w₂ : Writer} {xs ys : List ℕ} → Appends w₀ xs w₁ → Appends w₁ ys w₂ → Appends w₀ (xs ++ ys) w₂
◌⊕◌ v w = record { wrote = wrote_both v.wrote w.wrote; same = w.same ∙ v.same }

pub stores_compose : StoresCompose
stores_compose w₀ w₁ w₂ xs ys v w = v ⊕ w

-- the same bytes, said otherwise
pub appends_as : {w w' : Writer} {xs ys : List ℕ} → xs ≡ ys → Appends w xs w' → Appends w ys w'
appends_as {w} {w'} e v = subst (λ (q : List ℕ). Appends w q w') e v

-- a store byte by byte
stored : {b b' bytes : List ℕ} {at upto : ℕ} → at + length bytes ≤ length b → Wrote b at bytes b' upto → Stored b at bytes b' upto
stored {b} {b'} {bytes} {at} {upto} fits w =
    let e = w.end in
    let l : length (take at b) ≡ at = length-take-le at b (omega arith) in
    record {
      earlier =
          λ i h. sym (get_or-take upto b' i 0 (omega arith))
          ∙ ap (λ q. get_or q i 0) w.front
          ∙ get_or_append_left (take at b) bytes 0 i (omega arith)
          ∙ get_or-take at b i 0 h;
      inside =
          λ i h. sym (get_or-take upto b' (at + i) 0 (omega arith))
          ∙ ap (λ q. get_or q (at + i) 0) w.front
          ∙ ap (λ n. get_or (take at b ++ bytes) (n + i) 0) (sym l)
          ∙ get_or-append-add (take at b) bytes i 0;
      later =
          λ i h.
          let n : upto + (i - upto) ≡ i = omega arith in
          ap (λ k. get_or b' k 0) (sym n)
          ∙ sym (get_or-drop upto b' (i - upto) 0)
          ∙ ap (λ q. get_or q (i - upto) 0) w.rest
          ∙ get_or-drop upto b (i - upto) 0
          ∙ ap (λ k. get_or b k 0) n;
    }

pub stores_only_append : StoresOnlyAppend
stores_only_append w w' bytes fits a = stored fits a.wrote
