-- `lay`: each job by its own function. Assumes nothing.
use Rattle.calls.proofs.lay.Goals as goal

pub returns-in-Report : goal.returns-in-Report
returns-in-Report c = λ r d. rw c.in-Report.is (record { is = c.lay_report.ensures r d })

pub returns-in-Clean : goal.returns-in-Clean
returns-in-Clean c = λ r d. rw c.in-Clean.is (record { is = c.lay_clean.ensures r d })

pub returns-in-Both : goal.returns-in-Both
returns-in-Both c = λ r d. rw c.in-Both.is (record { is = c.lay_both.ensures r d })
