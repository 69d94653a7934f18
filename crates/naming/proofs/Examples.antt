-- Small files, computed. Assumes nothing.
use Rattle.std.specs.Prelude.{Ok, Err}
use mathlib.Core.Path.{◌≡◌, refl}
use mathlib.Core.Bool.{true, false}
use mathlib.Core.List.{[], ◌∷◌, ◌++◌}
use Rattle.text.specs.Digits.{worth, decimal}
use Rattle.text.specs.Quoted.{bytes}
use Rattle.utf8.specs.Utf8.{follow, low, high}
use Rattle.utf8.specs.Controls.{control}
use Rattle.utf8.specs.Characters.{goes_on}
use Rattle.naming.specs.declared.lines.Fault.TheVariants.{Mark, Form, NotGreater, NoText, NotUtf8, Control, NoFeed}
use Rattle.naming.specs.Names.{headed, texted, judged, marked, names_of, checked, text_of, has_name, name_of}

-- no names; two names
pub are_in_form : (checked [] ≡ Ok tt) × (checked (bytes "0=Dashain\n65535=a=b\n") ≡ Ok tt)
unfolding names_of marked judged headed texted decimal worth follow low high control
are_in_form = (refl, refl)

-- each thing that can be wrong, and the line that is told
pub are_not : (checked (239 ∷ 187 ∷ 191 ∷ bytes "1=A\n") ≡ Err (1, Mark)) × (checked (bytes "1=A\n\n2=B\n") ≡ Err (2, Form)) × (checked (bytes "01=A\n") ≡ Err (1, Form))
    × (checked (bytes "65536=A\n") ≡ Err (1, Form)) × (checked (bytes "2=A\n2=B\n") ≡ Err (2, NotGreater)) × (checked (bytes "1=\n") ≡ Err (1, NoText))
    × (checked (bytes "1=" ++ (192 ∷ 128 ∷ 10 ∷ [])) ≡ Err (1, NotUtf8)) × (checked (bytes "1=A" ++ (13 ∷ 10 ∷ [])) ≡ Err (1, Control 13))
    × (checked (bytes "1=A\n2=B") ≡ Err (2, NoFeed))
unfolding names_of marked judged headed texted decimal worth follow low high control
are_not = (refl, refl, refl, refl, refl, refl, refl, refl, refl)

-- the name of a number, also in a file that is out of form
pub are_names : (name_of 2 (bytes "1=A\n2=B\n") ≡ bytes "B") × (name_of 3 (bytes "1=A\n2=B\n") ≡ []) × (name_of 1 (bytes "?\n1=A\n1=B") ≡ bytes "A")
    × (has_name 2 (bytes "1=A\n2=\n") ≡ true) × (has_name 1 [] ≡ false)
unfolding name_of has_name text_of headed decimal worth goes_on
are_names = (refl, refl, refl, refl, refl)
