-- `answer::promises::meets_up_to_the_service_volume`, by the laws.
use Rattle.answer.proofs.PromiseLaws.{meets-up-to-the-service-volume}
use Rattle.answer.proofs.Instances.{service-volume-of-the-example, first-and-last-service-volume, service-volume-in-snow}
use Rattle.answer.proofs.promises.meets_up_to_the_service_volume.Goals as goal

pub returns-clause-part : goal.returns-clause-part
returns-clause-part c = meets-up-to-the-service-volume

pub returns-clause-example : goal.returns-clause-example
returns-clause-example c = service-volume-of-the-example

pub returns-clause-first_and_last : goal.returns-clause-first_and_last
returns-clause-first_and_last c = first-and-last-service-volume

pub returns-clause-in_snow : goal.returns-clause-in_snow
returns-clause-in_snow c = service-volume-in-snow
