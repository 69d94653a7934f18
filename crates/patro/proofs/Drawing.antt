-- A page drawn in a buffer of its own, and laid in another. Assumes nothing.
use Rattle.std.specs.Prelude.{Err, Ok}
use Prim.Native.Nat.{ℕ, ◌≤◌, ◌<◌}
use mathlib.Core.Path.{◌≡◌, refl, sym, ap, ◌∙◌}
use mathlib.Core.Bool.{Bool, true, false, cond, ◌&&◌, and-false}
use mathlib.Core.List.{List}
use mathlib.Core.Logic.{⊎_elim}
use native.Mathlib.Omega.{arith}
use borrow.Author.Tests.{le-leb, lt-leb}
use lib.Dec.{leb}
use lib.ListN.{length, take, length-append}
use lib.Seq.{length-sets, length-take-le}
use Rattle.paper.specs.declared.Refusal.{Refusal}
use Rattle.paper.specs.declared.Refusal.TheVariants as R
use Rattle.paper.specs.Answers.{Answer}
use Rattle.paper.proofs.Answers.{answered_same, refused_answered}
use Rattle.paper.proofs.Tests.{split}
use Rattle.paper.proofs.Stores.{sets_front}
use Rattle.text.specs.Written.{Wrote}
use Rattle.text.proofs.Writes.{wrote_front}
use Rattle.grid.specs.Month.{over}
use Rattle.patro.specs.Pages.{Laying, laid, Lays}
use Rattle.patro.specs.Inner.{Draws}

-- ---- drawn

bytes_refused : {n : ℕ} {why : Refusal} → Ok n ≡ Err why → ⊥
bytes_refused e = let z : ◌≡◌ {A = ℕ} 0 1 = cc in omega arith

-- a page is written as far as the buffer goes, or refused
pub draws_page : {a : Answer (List ℕ)} {text l : List ℕ} {i : ℕ} {m : List ℕ} {n : ℕ} → a ≡ Ok text → Wrote l i text m n → Draws a l i m (Ok n)
draws_page {a} {text} {l} {i} {m} {n} e w =
    record { page = λ k q. let z : n ≡ k = cc in (text, (e, rw z at w)); refusal = λ why q. absurd (bytes_refused q) }

pub draws_refused : {a : Answer (List ℕ)} {k : Refusal} {l : List ℕ} {i : ℕ} {m : List ℕ} → a ≡ Err k → Draws a l i m (Err k)
draws_refused {a} {k} e = record { page = λ n q. absurd (bytes_refused (sym q)); refusal = λ why q. let z : k ≡ why = cc in rw z at e }

-- ---- laid

module _ (text out : List ℕ) where
  -- a page that is too long for any buffer, or for this one
  pub long : 262143 < length text → Lays (laid (Ok text) out) out (Err R.NoRoom)
  unfolding laid
  long h = rw (lt-leb (length text) 262143 h) (record { says = refl; stored = refl })

  pub longer : length out < length text → Lays (laid (Ok text) out) out (Err R.NoRoom)
  unfolding laid
  longer h = rw (lt-leb (length text) (length out) h, and-false (leb (length text) 262143)) (record { says = refl; stored = refl })

  -- a page that has room
  pub fits : {after : List ℕ} {n : ℕ} → length text ≤ 262143 → length text ≤ length out → Wrote out 0 text after n → Lays (laid (Ok text) out) after (Ok n)
  unfolding laid
  fits h k w =
      rw (le-leb (length text) 262143 h, le-leb (length text) (length out) k) (record { says = ap Ok (wrote_front w k).0; stored = w.stored ∙ sets_front text out k })

-- a page that is cut off where its own buffer of 262,144 bytes ends is too long, as the whole is
cut_laid : (text l page : List ℕ) (n : ℕ) (out : List ℕ) → length l ≡ 262144 → Wrote l 0 text page n → laid (Ok (take n page)) out ≡ laid (Ok text) out
unfolding laid
cut_laid text l page n out e w =
    ⊎_elim (λ (h : length text ≤ 262144). let q = wrote_front w (omega arith) in rw q.1)
    (λ (h : 262144 < length text).
    let z : length page ≡ length l = ap length w.stored ∙ simp length-sets in
    let f = w.end in
    let m : n ≤ length page = omega arith in
    let k : 262143 < length (take n page) = rw (length-take-le n page m) (omega arith) in
    rw (lt-leb (length (take n page)) 262143 k, lt-leb (length text) 262143 (omega arith)))
    (split (length text) 262144)

-- what is drawn is laid
module _ (a : Answer (List ℕ)) (l : List ℕ) (e : length l ≡ 262144) {page : List ℕ} {r : Answer ℕ} (w : Draws a l 0 page r) where
  pub bytes_few : {n : ℕ} → r ≡ Ok n → n ≤ 262144
  bytes_few q = let p = (w.page _ q).1.1.end in omega arith

  pub lays_drawn : (out : List ℕ) {n : ℕ} → r ≡ Ok n → laid (Ok (take n page)) out ≡ laid a out
  lays_drawn out {n} q = let p = w.page _ q in cut_laid p.0 l page n out e p.1.1 ∙ ap (λ (z : Answer (List ℕ)). laid z out) (sym p.1.0)

pub lays_refused : (a : Answer (List ℕ)) (l out : List ℕ) {page : List ℕ} {r : Answer ℕ} {why : Refusal} → Draws a l 0 page r → r ≡ Err why → Lays (laid a out) out (Err why)
unfolding laid
lays_refused a l out w e = rw (w.refusal _ e) (record { says = refl; stored = refl })

-- the page where it has room, or the buffer as it was
abbrev roomed : List ℕ → List ℕ → Bool → Laying
roomed text out b = cond b (record { answer = Ok (length text); out = over text out }) (record { answer = Err R.NoRoom; out = out })

roomed_fits : (text out : List ℕ) (b : Bool) {after : List ℕ} {n : ℕ} → Ok n ≡ (roomed text out b).answer → after ≡ (roomed text out b).out → n ≤ length after
roomed_fits text out true {after} {n} p q = let k : n ≡ length text = answered_same p in rw (q, length-append) (omega arith)
roomed_fits text out false p q = absurd (refused_answered refl (sym p))

-- a page that is laid lies in the buffer
pub laid_fits : (a : Answer (List ℕ)) (out : List ℕ) {after : List ℕ} {r : Answer ℕ} {n : ℕ} → Lays (laid a out) after r → r ≡ Ok n → n ≤ length after
unfolding laid
laid_fits (Ok text) out w e =
    roomed_fits text out (leb (length text) 262143 && leb (length text) (length out)) (sym e ∙ w.says) w.stored
laid_fits (Err k) out w e = absurd (refused_answered w.says e)
