use Rattle.board_core.proofs.Numbers.{number_below, place_number, place_tile}
use Rattle.board_steps.proofs.Places.{gives_next, next_gives, window_graph}
use Rattle.board_steps.proofs.laws.the_tiles_of_a_window_are_a_graph.Goals as goal

pub returns : goal.returns
returns c = record {
  graph = window_graph;
  number = number_below;
  place = λ s t below. (place_tile s t below, place_number s t);
  gives = λ s p q d tile tile'. (gives_next s p q d, next_gives s p q d tile tile');
}
