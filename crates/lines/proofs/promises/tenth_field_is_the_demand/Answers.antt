-- `lines::promises::tenth_field_is_the_demand`, by the laws of lines.
use Rattle.lines.proofs.Laws.{demand-on-a-line, five-digits-read-as-before, older-reader-refuses-more}
use Rattle.lines.proofs.DemandLaws.{tenth-field-is-the-demand}
use Rattle.lines.proofs.promises.tenth_field_is_the_demand.Goals as goal

pub returns-clause-tenth_field : goal.returns-clause-tenth_field
returns-clause-tenth_field c = tenth-field-is-the-demand

pub returns-clause-greatest : goal.returns-clause-greatest
returns-clause-greatest c = demand-on-a-line

pub returns-clause-five_digits : goal.returns-clause-five_digits
returns-clause-five_digits c = five-digits-read-as-before

pub returns-clause-six_digits : goal.returns-clause-six_digits
returns-clause-six_digits c = older-reader-refuses-more
