use Rattle.std.proofs.Common.{subst}
use Rattle.lk_play.specs.Calls.{TellsNumber, TellsStar}
use Rattle.lk_play.proofs.Cuts.{no_blank_turn, cut_line, no_star, no_thread, no_word, no_number, a_turn}
use Rattle.lk_play.proofs.schedules.turn_in.Goals as goal

pub returns-in_default : goal.returns-in_default
returns-in_default c = no_blank_turn _ _ _ c.len_before.ensures.value c.split_at.ensures.back c.in_default.len_below

pub returns-in_default-star_in : goal.returns-in_default-star_in
returns-in_default-star_in c =
    no_star
    (cut_line _ _ _ _ _ _ _ c.len_before.ensures.value c.split_at.ensures.front c.split_at.ensures.back c.in-len1-up.len_at_least
    c.len_before-2.ensures.value c.split_at-2.ensures.front c.split_at-2.ensures.back)
    (subst (TellsStar c.split_at-2.result.1.now) c.in_default-star_in.is c.star_in.ensures)

pub returns-in_default-2 : goal.returns-in_default-2
returns-in_default-2 c =
    no_thread
    (cut_line _ _ _ _ _ _ _ c.len_before.ensures.value c.split_at.ensures.front c.split_at.ensures.back c.in-len1-up.len_at_least
    c.len_before-2.ensures.value c.split_at-2.ensures.front c.split_at-2.ensures.back)
    (subst (TellsNumber c.split_at.result.0.now) c.in_default-2.is c.in_ok-thread.ensures)

pub returns-in_default-3 : goal.returns-in_default-3
returns-in_default-3 c =
    no_word
    (cut_line _ _ _ _ _ _ _ c.len_before.ensures.value c.split_at.ensures.front c.split_at.ensures.back c.in-len1-up.len_at_least
    c.len_before-2.ensures.value c.split_at-2.ensures.front c.split_at-2.ensures.back)
    (subst (TellsNumber c.split_at-2.result.0.now) c.in_default-3.is c.in_ok-word.ensures)

pub returns-then-thread-ge-THREADS : goal.returns-then-thread-ge-THREADS
returns-then-thread-ge-THREADS c =
    no_number
    (cut_line _ _ _ _ _ _ _ c.len_before.ensures.value c.split_at.ensures.front c.split_at.ensures.back c.in-len1-up.len_at_least
    c.len_before-2.ensures.value c.split_at-2.ensures.front c.split_at-2.ensures.back)
    c.in-Some-2.thread (subst (TellsNumber c.split_at.result.0.now) c.in-Some-2.is c.in_ok-thread.ensures) c.if-thread-ge-THREADS.true

pub returns : goal.returns
returns c =
    a_turn
    (cut_line _ _ _ _ _ _ _ c.len_before.ensures.value c.split_at.ensures.front c.split_at.ensures.back c.in-len1-up.len_at_least
    c.len_before-2.ensures.value c.split_at-2.ensures.front c.split_at-2.ensures.back)
    c.in-Some-2.thread c.in-Some-3.word c.in-Some.until (subst (TellsStar c.split_at-2.result.1.now) c.in-Some.is c.star_in.ensures)
    (subst (TellsNumber c.split_at.result.0.now) c.in-Some-2.is c.in_ok-thread.ensures) c.if-thread-ge-THREADS.false
    (subst (TellsNumber c.split_at-2.result.0.now) c.in-Some-3.is c.in_ok-word.ensures)
