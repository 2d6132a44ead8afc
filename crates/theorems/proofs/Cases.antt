-- The eleven cases of specs/Cases, computed.
use mathlib.Core.Path.{◌≡◌, refl}
use mathlib.Core.List.{map}
use Rattle.protocol.specs.Descriptors.{types, height_at, height_over, has_values, of_objects, set_element, array_element, range_element, describe}
use Rattle.protocol.specs.Descriptors.{format_by_id, parse_then, some_bytes, passing, number_field, text_field, bool_field, operation, cardinal_of}
use Rattle.protocol.specs.Descriptors.{output_flags, input_flags, dimensions, unbound, item_count, item_run, counted, new_name, new_id, refers_to}
use Rattle.protocol.specs.Descriptors.{reference, any_block, object_reference, element, output_element, schema, format_given, format_from}
use Rattle.protocol.specs.Descriptors.{scalar_with, tuple_element, input_element, record_element, annotation_block, fields_of, indexed_block}
use Rattle.protocol.specs.Descriptors.{tagged, block, with_block, after_block, read_blocks, all_blocks, root_in, rooted_at, rooted_blocks}
use Rattle.protocol.specs.Numbers.{pick, be, be_from, at_least, up_to, any, same_bytes}
use Rattle.protocol.specs.Scalars.{of_size, scalar, format_rule, formats, rule_of}
use Rattle.protocol.specs.Heads.{word, negative, set_opening, count_opening, sparse_opening, element_in, optional, plain_head, sparse_index}
use Rattle.protocol.specs.Heads.{requires, sparse_rest, sparse_head, lacking, end_of, index_of, dimension}
use Rattle.protocol.specs.Nodes.{ref_at, rename}
use Rattle.protocol.specs.Lists.{append, width, words}
use Rattle.protocol.specs.Values.{then, under, absent, present, element_outcome, container_end, elements, row_head, opening_of, leaf_rule, row_rule}
use Rattle.protocol.specs.Values.{sparse_rule, by_node, value, value_of}
use Rattle.protocol.specs.Messages.{is_cardinality}
use Rattle.protocol.specs.Plans.{pair_ref, pair_card, refs_at, cards_at, look, placed_at, may_refer, raised, refer, refer_all, all_cardinalities}
use Rattle.protocol.specs.Plans.{node_size, node_height, read_node, then_nodes, read_nodes, nodes_of, is_some, starts_in, without_type, plan_formed}
use Rattle.protocol.specs.Plans.{many_height}
use Rattle.protocol.specs.Running.{nothing_in, list_roomed, value_by, checked, run_of, admitted}
use Rattle.protocol.specs.Text.{well_formed, goes_on, following, utf8_table, within}
use Rattle.protocol.specs.Compiling.{block_node, ref_cards, node_as_words, block_words, words_by, node_position, whole_plan, plan_roomed, compile_by}
use Rattle.theorems.specs.Cases.{four, int64_id, set_id, int64_block, set_block, descriptor_a, plan_a, plan_sparse, two_integers}
use Rattle.theorems.specs.Cases.{result_of, Case, cases}

pub case_table : map (λ (c : Case). c.done) cases ≡ map (λ (c : Case). c.gives) cases
unfolding pick be be_from scalar format_rule formats rule_of of_size word negative set_opening count_opening sparse_opening element_in
    optional plain_head sparse_index requires sparse_rest sparse_head lacking end_of index_of ref_at append width words then under absent present
    element_outcome container_end elements row_head opening_of leaf_rule row_rule sparse_rule by_node value value_of pair_ref pair_card up_to refs_at
    cards_at look placed_at may_refer at_least raised refer refer_all is_cardinality all_cardinalities node_size node_height read_node then_nodes
    read_nodes nodes_of is_some starts_in without_type plan_formed nothing_in value_by checked list_roomed run_of result_of plan_a plan_sparse four
    two_integers rename any same_bytes int64_id set_id int64_block set_block descriptor_a cases well_formed goes_on following
    utf8_table within types height_at height_over has_values of_objects set_element array_element range_element format_by_id parse_then some_bytes
    passing number_field text_field bool_field operation cardinal_of output_flags input_flags dimensions unbound item_count item_run counted new_name
    new_id refers_to reference any_block object_reference element output_element schema format_given format_from scalar_with tuple_element
    input_element record_element annotation_block fields_of indexed_block tagged block with_block after_block read_blocks all_blocks root_in rooted_at
    rooted_blocks describe block_node ref_cards node_as_words block_words words_by node_position whole_plan plan_roomed compile_by dimension many_height
    admitted
case_table = refl
