-- The worked texts come out as they must.
-- Assumes nothing.
use lib.Dec.{T}
use Rattle.number.specs.Reader.{unless}
use Rattle.condition_model.specs.Reader.{front, skipped, sign, value_by, unfit, number_of, number, label, valued, equation_by, equation_at, condition_by, end, whole_by, read_text}
use Rattle.condition_model.specs.Truth.{truth_c}
use Rattle.condition_model.specs.Worked.{bytes_from, bytes, times, same_c, loaded_at, read_as, read_true, refused_at, row_holds, worked, productions, spaced, truths, cut_texts, wrong_bytes, outside, half_signs, numbers, needless_zeros, leftmosts, lengths, depths}

pub worked_texts : T (worked productions) × T (worked spaced) × T (worked truths) × T (worked cut_texts) × T (worked wrong_bytes) × T (worked outside) × T (worked half_signs) × T (worked numbers) × T (worked needless_zeros) × T (worked leftmosts) × T (worked lengths) × T (worked depths)
unfolding unless front skipped sign value_by unfit number_of number label valued equation_by equation_at condition_by end whole_by read_text truth_c bytes_from bytes times same_c
    loaded_at read_as read_true refused_at row_holds worked productions spaced truths cut_texts wrong_bytes outside half_signs numbers needless_zeros leftmosts lengths depths
worked_texts = (tt, tt, tt, tt, tt, tt, tt, tt, tt, tt, tt, tt)
