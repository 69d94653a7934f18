-- A month's answer and its two buffers: how long what is written is, and what fits. Assumes nothing.
use Rattle.std.specs.Prelude.{Err, Ok}
use Prim.Native.Nat.{ℕ, ◌*◌, ◌≤◌, ◌<◌}
use mathlib.Core.Path.{◌≡◌, refl, sym, ap, ◌∙◌}
use mathlib.Core.Bool.{and-false}
use mathlib.Core.List.{List}
use borrow.Author.Tests.{le-leb, lt-leb}
use lib.Dec.{leb}
use lib.ListN.{length, take, replicate}
use lib.Seq.{sets}
use Rattle.paper.specs.declared.Refusal.{Refusal}
use Rattle.paper.specs.declared.Refusal.TheVariants.{NoRoom}
use Rattle.paper.specs.Answers.{Answer}
use Rattle.paper.proofs.Stores.{sets_front, front_of}
use Rattle.gregorian.specs.Calendar.{weekday_of}
use Rattle.rules.specs.Festivals.{numbers}
use Rattle.grid.specs.declared.Month.{Month}
use Rattle.grid.specs.declared.page.Plan.{Plan}
use Rattle.festivals.specs.Months.{each}
use Rattle.grid.specs.Cells.{joined}
use Rattle.grid.specs.Month.{Grid, cell_numbers, festival_numbers, fitted, shown, grid_of}
use Rattle.grid.specs.Inner.{list_at, cell_at, grid_by, cells_of, month_of}
use Rattle.rules.proofs.Listed.{numbers_length}
use Rattle.grid.proofs.Marks.{cell_length}
use Rattle.grid.proofs.Weeks.{month_length_law, month-numbers, month-laid}

-- ---- what fits

module _ (g : Grid) (a b : ℕ) where
  pub no_cells : a < length (cell_numbers g) → fitted g a b ≡ Err NoRoom
  unfolding fitted
  no_cells h = rw (lt-leb (length (cell_numbers g)) a h)

  pub no_festivals : b < length (festival_numbers g) → fitted g a b ≡ Err NoRoom
  unfolding fitted
  no_festivals h = rw (lt-leb (length (festival_numbers g)) b h, and-false (leb (length (cell_numbers g)) a))

  pub fits : length (cell_numbers g) ≤ a → length (festival_numbers g) ≤ b → fitted g a b ≡ Ok g
  unfolding fitted
  fits h k = rw (le-leb _ _ h, le-leb _ _ k)

-- an answer and two buffers are what is shown
pub record Says (a : Answer Grid) (cells festivals : List ℕ) (r : Answer Month) (cells' festivals' : List ℕ) : Type 0 where
  pub answer : r ≡ (shown a cells festivals).answer
  pub first : cells' ≡ (shown a cells festivals).cells
  pub second : festivals' ≡ (shown a cells festivals).festivals

-- a refusal changes nothing
pub says_refused : (a : Answer Grid) (k : Refusal) (cells festivals : List ℕ) → a ≡ Err k → Says a cells festivals (Err k) cells festivals
unfolding shown
says_refused a k cells festivals e = rw e (record { answer = refl; first = refl; second = refl })

pub says_by : {a b : Answer Grid} {cells festivals cells' festivals' : List ℕ} {r : Answer Month} → a ≡ b → Says b cells festivals r cells' festivals' → Says a cells festivals r cells' festivals'
says_by e s = rw e s

-- what fits is stored from the front
pub says_grid : (a : Answer Grid) (g : Grid) (cells festivals vs ws : List ℕ) (r : Month) → a ≡ Ok g
    → r ≡ record { days = g.days; first = g.first; last = g.last; cells = length g.cells; festivals = length g.festivals }
    → vs ≡ cell_numbers g → ws ≡ festival_numbers g → length (cell_numbers g) ≤ length cells → length (festival_numbers g) ≤ length festivals
    → Says a cells festivals (Ok r) (sets cells 0 vs) (sets festivals 0 ws)
unfolding shown
says_grid a g cells festivals vs ws r e m p q h k =
    rw (e, m, p, q) (record { answer = refl; first = sets_front (cell_numbers g) cells h; second = sets_front (festival_numbers g) festivals k })

-- ---- the month of a plan

module _ (rules : List ℕ) (p : Plan) where
  twelve : (d : ℕ) → length (cell_at rules p d) ≡ 12
  twelve d = cell_length _ _ _ _ _

  pub cells_length : length (grid_by rules p).cells ≡ cells_of p
  unfolding grid_of
  cells_length = month_length_law (cell_at rules p) (weekday_of p.first) p.days

  pub cell_numbers_length : length (cell_numbers (grid_by rules p)) ≡ cells_of p * 12
  unfolding grid_of
  cell_numbers_length = month-numbers (cell_at rules p) (weekday_of p.first) p.days twelve

  pub festival_numbers_length : length (festival_numbers (grid_by rules p)) ≡ length (grid_by rules p).festivals * 2
  festival_numbers_length = numbers_length (grid_by rules p).festivals

  pub festivals_are : (grid_by rules p).festivals ≡ joined (each (list_at rules p) 0 p.days)
  unfolding grid_of
  festivals_are = refl

  -- the front of a page of zeros, where the days' cells were stored
  pub page_front : (page₀ page : List ℕ) → page₀ ≡ replicate (length page₀) 0 → page ≡ sets page₀ (weekday_of p.first * 12) (joined (each (cell_at rules p) 0 p.days)) → cells_of p * 12 ≤ length page₀
      → take (cells_of p * 12) page ≡ cell_numbers (grid_by rules p)
  unfolding grid_of
  page_front page₀ page z e h =
      ap (take (cells_of p * 12)) (e ∙ ap (λ (l : List ℕ). sets l (weekday_of p.first * 12) (joined (each (cell_at rules p) 0 p.days))) z)
      ∙ month-laid (cell_at rules p) (weekday_of p.first) p.days twelve (length page₀) h

  -- the front of where the lists were stored
  pub lists_front : (lists₀ lists : List ℕ) (n : ℕ) → lists ≡ sets lists₀ 0 (numbers (joined (each (list_at rules p) 0 p.days))) → n ≡ length (joined (each (list_at rules p) 0 p.days)) → n * 2 ≤ length lists₀
      → take (n * 2) lists ≡ festival_numbers (grid_by rules p)
  unfolding grid_of
  lists_front lists₀ lists n e q h =
      front_of (festival_numbers (grid_by rules p)) lists₀ lists (n * 2) e (festival_numbers_length ∙ ap (λ (k : ℕ). k * 2) (sym q)) h

  pub month_is : (r : Month) (cells festivals : ℕ) → r ≡ month_of p cells festivals → cells ≡ cells_of p → festivals ≡ length (grid_by rules p).festivals
      → let g = grid_by rules p in r ≡ record { days = g.days; first = g.first; last = g.last; cells = length g.cells; festivals = length g.festivals }
  unfolding grid_of
  month_is r cells festivals e a b = rw (e, a, b, cells_length)
