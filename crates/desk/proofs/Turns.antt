-- A line lends, or is answered over what is lent and kept. Assumes nothing.
use Rattle.std.specs.Prelude.{Option}
use Prim.Native.Nat.{ℕ}
use mathlib.Core.Path.{◌≡◌, ap, ◌∙◌}
use mathlib.Core.List.{List}
use lib.ListN.{take}
use Rattle.asked.specs.Line.{words_of}
use Rattle.asked.specs.Octets.{octets_in, held}
use Rattle.asked.specs.Turns.{input_of, heard, TurnAfter}
use Rattle.asked.specs.declared.bytes.Octets.{Octets}
use Rattle.asked.specs.declared.input.Turn.{Turn}
use Rattle.asked.specs.declared.words.Words.{Words}
use Rattle.lines.specs.Lines.{waiting, has_feed}
use Rattle.output.specs.Gathered.{gathered, puts, ended}
use Rattle.lending.specs.Lending.{Loan, loan_after}
use Rattle.kept.specs.State.{State}
use Rattle.desk.specs.declared.Stepped.{Stepped}
use Rattle.kept.specs.declared.Kept.{Kept}
use Rattle.desk.specs.declared.keeping.Said.{Said}
use Rattle.desk.specs.Keeping.{Told, state_in, Says}
use Rattle.desk.specs.Runs.{Desk, desk_of, told_to, lend_line, tell_line, StepDone}

loan_is : (x y : Loan) (s : List ℕ) (w : Words) (o : Octets) → w ≡ words_of s → o ≡ held (octets_in s) → y ≡ loan_after x w o → y ≡ lend_line x s
unfolding lend_line
loan_is x y s w o e f k = k ∙ ap (λ (v : Words). loan_after x v o) e ∙ ap (loan_after x (words_of s)) f

told_is : (x y : Loan) (k : Option Kept) (s : List ℕ) (w : Words) (o : Octets) → w ≡ words_of s → o ≡ held (octets_in s) → y ≡ lend_line x s
    → told_to y (state_in k) w o ≡ tell_line (desk_of x k) s
unfolding tell_line
told_is x y k s w o e f l = rw (l, e, f)

desk_same : {x y : Loan} {a b : Option State} → x ≡ y → a ≡ b → ◌≡◌ {A = Desk} (record { loan = x; state = a }) (record { loan = y; state = b })
desk_same p q = rw (p, q)

-- the line lends, is answered, and the next one is read
pub step_done : {t : Turn} {x y : Loan} {k : Option Kept} {piece line out piece' line' out₁ out' : List ℕ} {w : Words} {o : Octets} {s : Said} {r : Stepped}
    → w ≡ words_of (take t.len line) → o ≡ held (octets_in (take t.len line)) → y ≡ loan_after x w o → Says out t.out (told_to y (state_in k) w o) out₁ s
    → r.kept ≡ s.kept
    → TurnAfter (input_of t) piece line piece' line' out' (heard (has_feed (waiting piece (input_of t))) (ended (gathered out₁ s.out))) r.turn
    → StepDone t x k piece line out y piece' line' out' r
step_done {t} {x} {y} {k} {line = line} {out = out} {w = w} {o = o} e f l s q n =
    let line' = take t.len line in
    let loan : y ≡ lend_line x line' = loan_is x y line' w o e f l in
    let told : told_to y (state_in k) w o ≡ tell_line (desk_of x k) line' = told_is x y k line' w o e f loan in
    record {
      done = record {
        holds = desk_same loan (rw q (s.state ∙ ap (λ (v : Told). v.state) told));
        turn = rw (s.words.same ∙ ap (λ (v : Told). puts (gathered out t.out) v.words) told) at n;
      };
      sound = rw q s.sound;
    }

-- before a state is kept
