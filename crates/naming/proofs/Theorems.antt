-- The claims of specs/Claims.antt. Assumes nothing.
use Rattle.std.specs.Prelude.{Some}
use Prim.Native.Nat.{ℕ, suc, ◌≤◌}
use mathlib.Core.Path.{◌≡◌, refl, sym, ap, ◌∙◌}
use mathlib.Core.Bool.{Bool, true, false, cond}
use mathlib.Core.List.{List, [], ◌∷◌}
use native.Mathlib.Omega.{arith}
use lib.Dec.{eqb}
use lib.ListN.{length}
use Rattle.utf8.specs.Utf8.{utf8}
use Rattle.utf8.specs.Controls.{clear}
use Rattle.utf8.proofs.Theorems.{fronts}
use Rattle.naming.specs.Names.{Name, are, names_of, present, shown, has_name, name_of}
use Rattle.naming.specs.Claims.{Rising, text_at, Exact, Looked}
use Rattle.naming.proofs.Files.{in_form_law, file_writes}

pub exact : Exact
exact = record {
  reads = λ s xs e. ((in_form_law s xs e).rising, (in_form_law s xs e).same);
  writes = file_writes;
  same = λ s t xs p q. (in_form_law s xs p).same ∙ sym (in_form_law t xs q).same;
}

-- ---- the name of a number

module _ (s : List ℕ) (xs : List Name) (number : ℕ) (e : names_of s ≡ are xs) where
  name_found : name_of number s ≡ shown (text_at number xs)
  unfolding name_of
  name_found = ap shown ((in_form_law s xs e).text number)

  has_found : has_name number s ≡ present (text_at number xs)
  unfolding has_name
  has_found = ap present ((in_form_law s xs e).text number)

-- what is shown of a name of a list that rises
record Fits (t : List ℕ) : Type 0 where
  encoded : utf8 t ≡ true
  plain : clear false t ≡ true
  short : length t ≤ 480

fits : (number least : ℕ) (xs : List Name) → Rising least xs → Fits (shown (text_at number xs))
fits number least [] r = record { encoded = refl; plain = refl; short = omega arith }
fits number least (x ∷ xs) r = go (eqb x.number number) (fits number (suc x.number) xs r.2)
  where
    go : (f : Bool) → Fits (shown (text_at number xs)) → Fits (shown (cond f (Some x.text) (text_at number xs)))
    go true i =
        let g = r.1 in
        record { encoded = fronts.stays 120 x.text g.encoded; plain = fronts.plain false 120 x.text g.plain; short = fronts.short 120 x.text g.encoded }
    go false i = i

pub looked : Looked
looked s xs number e =
    let n = name_found s xs number e in
    let f = fits number 0 xs (in_form_law s xs e).rising in
    record {
      has = has_found s xs number e;
      name = n;
      whole = λ t p l. n ∙ ap shown p ∙ fronts.whole 120 t l;
      encoded = ap utf8 n ∙ f.encoded;
      plain = ap (clear false) n ∙ f.plain;
      short = let l = f.short in omega (arith, ap length n);
    }
