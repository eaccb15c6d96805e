use Rattle.link_headline.proofs.Worded.{same_meaning, same_fault}
use Rattle.link_headline.proofs.law_kernel_words.Goals as goal

pub returns-clause-means : goal.returns-clause-means
returns-clause-means c = same_meaning

pub returns-clause-fault : goal.returns-clause-fault
returns-clause-fault c = same_fault
