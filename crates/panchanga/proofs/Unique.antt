-- What an answer says tells the answer: so no second answer meets a contract. Assumes nothing.
use Rattle.std.specs.Prelude.{Err, None, Ok, Option, Some}
use Rattle.std.proofs.Common.{◌≡◌, refl}
use lib.Ieee.{Float}
use Rattle.paper.specs.Answers.{Answer}
use Rattle.paper.proofs.Answers.{told_by_law}
use Rattle.panchanga.specs.declared.Span.{Span}
use Rattle.panchanga.specs.Answers.{span_is, span_says}

abbrev span_from : Option (Float × Float) → Option Span
span_from (Some s) = Some (record { from = (record { 0 = s.0 }); to = (record { 0 = s.1 }) })
span_from None = None

span_from_law : (r : Option Span) → span_from (span_is r) ≡ r
span_from_law (Some s) = refl
span_from_law None = refl

pub span_is_only : (r s : Option Span) → span_is r ≡ span_is s → r ≡ s
span_is_only = told_by_law span_is span_from span_from_law

abbrev span_back : Answer (Option (Float × Float)) → Answer (Option Span)
span_back (Ok (Some s)) = Ok (Some (record { from = (record { 0 = s.0 }); to = (record { 0 = s.1 }) }))
span_back (Ok None) = (Ok None)
span_back (Err k) = Err k

span_back_law : (r : Answer (Option Span)) → span_back (span_says r) ≡ r
span_back_law (Ok (Some s)) = refl
span_back_law (Ok None) = refl
span_back_law (Err k) = refl

pub span_only : (r s : Answer (Option Span)) → span_says r ≡ span_says s → r ≡ s
span_only = told_by_law span_says span_back span_back_law
