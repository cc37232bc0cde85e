use Rattle.power_log.proofs.Judges.{judged_boot, judged_long, judged_uneven, judged_yes, judged_no, reader_tells}
use Rattle.power_log.proofs.judge.Goals as goal

pub returns-in-Err : goal.returns-in-Err
returns-in-Err c = judged_boot _ _ _ _ _ _ _ c.boot_verdict.ensures c.in-Err.is

pub returns-then-log-gt-MOST_NUMBERS : goal.returns-then-log-gt-MOST_NUMBERS
returns-then-log-gt-MOST_NUMBERS c = judged_long _ _ _ _ _ _ c.boot_verdict.ensures c.in_default.is c.if-log-gt-MOST_NUMBERS.true

-- the log is no whole number of entries
pub returns-then-log-ne0 : goal.returns-then-log-ne0
returns-then-log-ne0 c =
    judged_uneven _ _ _ _ _ _ c.boot_verdict.ensures c.in_default.is c.if-log-gt-MOST_NUMBERS.false c.if-log-ne0.true

pub returns-then-read_swap : goal.returns-then-read_swap
returns-then-read_swap c =
    judged_yes _ _ _ _ _ _ c.boot_verdict.ensures c.in_default.is c.if-log-gt-MOST_NUMBERS.false
    c.if-log-ne0.false
    (reader_tells _ _ _ _ c.as_chunks.ensures.front c.page_size-page.ensures c.read_swap.ensures c.if-read_swap.true)

pub returns : goal.returns
returns c =
    judged_no _ _ _ _ _ _ c.boot_verdict.ensures c.in_default.is c.if-log-gt-MOST_NUMBERS.false
    c.if-log-ne0.false
    (reader_tells _ _ _ _ c.as_chunks.ensures.front c.page_size-page.ensures c.read_swap.ensures c.if-read_swap.false)
